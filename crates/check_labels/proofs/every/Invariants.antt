use Rattle.std.proofs.Common.{◌≡◌, ℕ, ◌<◌, ◌≤◌, true}
use Rattle.check_labels.proofs.every.Given as goal

abbrev pub invariant-loop-i : goal.invariant-loop-i
invariant-loop-i g l = l.good ≡ true → (j : ℕ) → l.from ≤ j → j < l.i → goal.F-post g l.passes j true
