use Rattle.filler.proofs.Sizes.{Going}
use Rattle.filler.proofs.fill.Given as goal

abbrev pub invariant-loop-k : goal.invariant-loop-k
invariant-loop-k l = Going l.initial.work l.s l.work l.places l.k
