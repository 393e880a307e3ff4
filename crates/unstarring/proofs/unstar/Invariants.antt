use Prim.Native.Nat.{◌-◌}
use lib.ListN.{length}
use Rattle.unstarring.proofs.Found.{Copying}
use Rattle.unstarring.proofs.unstar.Given as goal

-- `unstarring::unstar` meets its contract. Assumes nothing.
abbrev pub invariant-loop-at : goal.invariant-loop-at
invariant-loop-at l = Copying l.text l.copy l.s l.at l.n

abbrev pub decreases-loop-at : goal.decreases-loop-at
decreases-loop-at l = length l.text - l.at
