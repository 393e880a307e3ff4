use Rattle.bound_walk.specs.Walk.{Rested}
use Rattle.bound_walk.proofs.Walks.{AllBelow}
use Rattle.bound_walk.proofs.settle_all.Given as goal

abbrev pub invariant-loop-n : goal.invariant-loop-n
invariant-loop-n l = Rested l.work l.marks × AllBelow l.n l.marks
