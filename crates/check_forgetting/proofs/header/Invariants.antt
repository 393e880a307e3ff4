use Prim.Native.Nat.{ℕ, ◌<◌}
use lib.ListN.{length, get_or}
use mathlib.Core.Path.{◌≡◌}
use Rattle.check_equality.specs.Layout.{slots}
use Rattle.check_forgetting.proofs.header.Given as goal

abbrev pub invariant-loop-i : goal.invariant-loop-i
invariant-loop-i l =
    (length l.key ≡ slots) × ((j : ℕ) → j < l.i → get_or l.key j 0 ≡ j)
