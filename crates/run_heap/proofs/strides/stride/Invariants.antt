use Rattle.std.proofs.Common.{◌≡◌, suc, ◌-◌, ◌≤◌, true}
use Rattle.run_heap.specs.Chains.{walk_in}
use Rattle.run_heap.proofs.strides.stride.Given as goal

abbrev pub invariant-loop-i : goal.invariant-loop-i
invariant-loop-i l = (l.initial.i ≤ l.i) × (walk_in l.work l.v (λ _. true) l.f (suc l.n - l.i) l.at l.last ≡ walk_in l.work l.v (λ _. true) l.f (suc l.n - l.initial.i) l.initial.at l.initial.last)

abbrev pub decreases-loop-i : goal.decreases-loop-i
decreases-loop-i l = suc l.n - l.i
