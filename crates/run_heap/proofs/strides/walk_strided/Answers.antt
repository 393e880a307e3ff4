use Rattle.std.proofs.Common.{sym, ◌∙◌, arith}
use Rattle.run_heap.specs.Views.{answered, stop_of}
use Rattle.run_heap.proofs.Walking.{walk-over}
use Rattle.run_heap.proofs.strides.walk_strided.Goals as goal

pub returns : goal.returns
unfolding answered stop_of
returns c = sym (walk-over _ _ _ _ _ _ _ _ (omega (arith, c.loop-from-test.false))) ∙ c.loop-from.invariant
