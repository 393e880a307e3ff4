use Prim.Native.Nat.{ℕ, ◌≤◌, ◌<◌}
use lib.ListN.{length, get_or}
use mathlib.Core.Path.{◌≡◌}
use Rattle.check_equality.specs.Layout.{bytes}
use Rattle.check_labels.proofs.anew.fresh.Given as goal

abbrev pub invariant-loop-i : goal.invariant-loop-i
invariant-loop-i l =
    (length l.b ≡ bytes) × (length l.initial.b ≡ bytes) × ((j : ℕ) → j < l.i → get_or l.b j 0 ≡ j) × ((j : ℕ) → l.i ≤ j → get_or l.b j 0 ≡ get_or l.initial.b j 0)
