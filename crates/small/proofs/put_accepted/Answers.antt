use mathlib.Core.Path.{sym, ◌∙◌}
use native.Mathlib.Omega.{arith}
use Rattle.small.specs.Listing.{places_in}
use Rattle.small.proofs.Lines.{listed, left_out, line-room}
use Rattle.small.proofs.put_accepted.Goals as goal

pub returns-then-not-is_accepted : goal.returns-then-not-is_accepted
returns-then-not-is_accepted c =
    left_out _ (sym (c.if-not-is_accepted.true) ∙ c.is_accepted.ensures) (omega (arith, c.requires.1))

pub put_line-requires : goal.put_line-requires
put_line-requires c =
    (c.requires.0, omega (arith, c.requires.1, line-room (places_in c.args.m)))

pub returns : goal.returns
returns c =
    listed _ (sym (c.if-not-is_accepted.false) ∙ c.is_accepted.ensures) c.put_line.ensures
