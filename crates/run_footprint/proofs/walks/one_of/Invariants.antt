use mathlib.Core.Path.{◌≡◌}
use mathlib.Core.Bool.{Bool}
use Prim.Native.Nat.{ℕ}
use lib.ListN.{take, drop}
use Rattle.rules.specs.Base.{any}
use Rattle.run_heap.specs.Chains.{Answers}
use Rattle.run_footprint.proofs.walks.one_of.Given as goal

abbrev pub invariant-loop-i : goal.invariant-loop-i
invariant-loop-i g l = (test : ℕ → Bool) → Answers (goal.F-post g l.passes) test → any test (drop l.i (take l.n l.shares)) ≡ any test (take l.n l.shares)
