use Rattle.std.proofs.Common.{◌≡◌, suc, ◌-◌, true}
use Rattle.run_heap.specs.Chains.{walk_in, rest_of}
use Rattle.run_heap.proofs.strides.walk_strided.Given as goal

abbrev pub invariant-loop-from : goal.invariant-loop-from
invariant-loop-from l = rest_of l.work l.v l.f l.from ≡ walk_in l.work l.v (λ _. true) l.f (suc l.v.objects) l.o 0

abbrev pub decreases-loop-from : goal.decreases-loop-from
decreases-loop-from l = suc l.v.objects - l.from.passed
