use Prim.Native.Nat.{ℕ, ◌<◌}
use Rattle.check_state.specs.States.{slots_in}
use Rattle.check_state.specs.Questions.{Told, entry_test}
use Rattle.check_equality.specs.Keys.{term_of}
use mathlib.Core.Bool.{false}
use mathlib.Core.Path.{◌≡◌}
use Rattle.check_state.proofs.find.Given as goal

abbrev pub invariant-loop-i : goal.invariant-loop-i
invariant-loop-i l =
    Told l.known.keys l.known.bytes (slots_in l.known.bytes) (λ same. (j : ℕ) → j < l.i → entry_test l.known.bytes l.kinds l.least l.most (term_of l.k) l.f same j ≡ false)
