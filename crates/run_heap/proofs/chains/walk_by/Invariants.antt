use Rattle.std.proofs.Common.{◌≡◌, ℕ, Bool, suc, ◌-◌}
use Rattle.run_heap.specs.Chains.{Answers, walk_in}
use Rattle.run_heap.proofs.chains.walk_by.Given as goal

abbrev pub invariant-loop-i : goal.invariant-loop-i
invariant-loop-i g l = (test : ℕ → Bool) → Answers (goal.F-post g l.free) test → walk_in l.work l.v test l.f (suc l.v.objects - l._i) l.at l.last ≡ walk_in l.work l.v test l.f (suc l.v.objects) l.o 0
