use Prim.Native.Nat.{ℕ, ◌<◌}
use Rattle.check_state.specs.States.{slots_in}
use Rattle.check_state.specs.Questions.{Told}
use Rattle.check_inequality.specs.Ways.{named_at}
use mathlib.Core.Bool.{false}
use mathlib.Core.Path.{◌≡◌}
use Rattle.check_inequality.proofs.first_named.Given as goal

abbrev pub invariant-loop-i : goal.invariant-loop-i
invariant-loop-i l = Told l.known.keys l.known.bytes (slots_in l.known.bytes) (λ same. (j : ℕ) → j < l.i → named_at l.known.bytes l.k same j ≡ false)
