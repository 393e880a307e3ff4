use native.Mathlib.Omega.{arith}
use Rattle.bound_walk.proofs.Walks.{rested-first}
use Rattle.bound_walk.proofs.settle_all.Goals as goal

pub loop-n-init : goal.loop-n-init
loop-n-init c = (rested-first _, λ i l. absurd (omega arith))
