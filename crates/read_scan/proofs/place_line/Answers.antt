use Rattle.rules.specs.Numbered.{number}
use Rattle.rules.proofs.KindNumbers.{bounds}
use Rattle.read_scan.proofs.Scans.{place-line-is}
use Rattle.read_scan.proofs.place_line.Goals as goal

pub returns : goal.returns
returns c =
    λ p e.
    let f = place-line-is c.args.p (number c.args.kind) (bounds c.args.kind) p e in
    rw (c.next_place.ensures, c.is_in_place.ensures, c.is_within.ensures, c.place_after-q.ensures) f
