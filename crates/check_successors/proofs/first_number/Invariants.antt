use Prim.Native.Nat.{ℕ, ◌<◌}
use mathlib.Core.Bool.{false}
use mathlib.Core.Path.{◌≡◌}
use Rattle.check_successors.specs.Successors.{number_at_side}
use Rattle.check_successors.proofs.first_number.Given as goal

abbrev pub invariant-loop-i : goal.invariant-loop-i
invariant-loop-i l = ((j : ℕ) → j < l.i → number_at_side l.known.keys l.known.bytes l.a j ≡ false)
