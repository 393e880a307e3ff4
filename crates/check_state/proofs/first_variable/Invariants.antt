use Prim.Native.Nat.{ℕ, ◌<◌}
use Rattle.check_state.specs.States.{slots_in}
use Rattle.check_state.specs.Questions.{Told, stands_for}
use Rattle.check_equality.specs.Keys.{term_of}
use mathlib.Core.Bool.{false}
use mathlib.Core.Path.{◌≡◌}
use Rattle.check_state.proofs.first_variable.Given as goal

abbrev pub invariant-loop-v : goal.invariant-loop-v
invariant-loop-v l = Told l.known.keys l.known.bytes (slots_in l.known.bytes) (λ same. (j : ℕ) → j < l.v → stands_for same l.x (term_of l.k) j ≡ false)
