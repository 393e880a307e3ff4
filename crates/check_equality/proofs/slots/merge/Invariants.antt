use Prim.Native.Nat.{ℕ, ◌≤◌, ◌<◌}
use Rattle.check_equality.specs.Layout.{bytes}
use Rattle.check_equality.specs.Links.{picked}
use lib.ListN.{length, get_or}
use mathlib.Core.Path.{◌≡◌}
use Rattle.check_equality.proofs.slots.merge.Given as goal

abbrev pub invariant-loop-i : goal.invariant-loop-i
invariant-loop-i l =
    (length l.label ≡ bytes) × (length l.initial.label ≡ bytes) × ((j : ℕ) → j < l.i → get_or l.label j 0 ≡ picked l.from l.to (get_or l.initial.label j 0)) × ((j : ℕ) → l.i ≤ j → get_or l.label j 0 ≡ get_or l.initial.label j 0)
