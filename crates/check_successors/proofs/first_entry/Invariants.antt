use Prim.Native.Nat.{ℕ, ◌<◌}
use mathlib.Core.Bool.{false}
use mathlib.Core.Path.{◌≡◌}
use Rattle.check_state.specs.States.{slots_in}
use Rattle.check_state.specs.Questions.{Told}
use Rattle.check_successors.specs.Successors.{entry_path_test}
use Rattle.check_successors.proofs.first_entry.Given as goal

abbrev pub invariant-loop-i : goal.invariant-loop-i
invariant-loop-i l =
    Told l.known.keys l.known.bytes (slots_in l.known.bytes) (λ same. (j : ℕ) → j < l.i → entry_path_test same l.known.bytes l.skip l.t j ≡ false)
