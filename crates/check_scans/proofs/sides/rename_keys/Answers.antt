use Rattle.std.proofs.Common.{rules, arith}
use Rattle.check_scans.proofs.sides.rename_keys.Goals as goal

pub returns : goal.returns
returns c =
    c.map_sides.ensures _ (λ j r a h p. search rules) (record { header = c.requires.1; at = λ j a h. absurd (omega arith) })
