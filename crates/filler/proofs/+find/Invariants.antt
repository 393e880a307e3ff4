-- The places still to come, and the permissions still to choose.
use Prim.Native.Nat.{suc, ◌+◌, ◌-◌}
use Rattle.filler.proofs.+find.Given as goal

abbrev pub decreases-find : goal.decreases-find
decreases-find l = l.left + (suc l.s.count - l.p)
