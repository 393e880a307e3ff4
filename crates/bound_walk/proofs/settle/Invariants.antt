use Rattle.bound_walk.specs.Walk.{Walking, Keeps, turns_left}
use Rattle.bound_walk.proofs.settle.Given as goal

abbrev pub invariant-loop-r : goal.invariant-loop-r
invariant-loop-r l = Walking l.work l.r × Keeps l.initial.r.marks l.r.marks

abbrev pub decreases-loop-r : goal.decreases-loop-r
decreases-loop-r l = turns_left l.r
