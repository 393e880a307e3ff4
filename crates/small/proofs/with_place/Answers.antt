use native.Mathlib.Omega.{arith}
use Rattle.small.proofs.Texts.{place-bounds, adds}
use Rattle.small.proofs.with_place.Goals as goal

-- `small::with_place` meets its contract. Assumes nothing.
pub overflow_add-m : goal.overflow_add-m
overflow_add-m c =
    omega (arith, (place-bounds _ c.requires.2).1)

pub returns : goal.returns
returns c =
    adds c.args.place c.requires.0 c.requires.1 c.requires.2
