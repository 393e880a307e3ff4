use Prim.Native.Nat.{ℕ, ◌+◌, ◌*◌, ◌≤◌}
use Rattle.check_labels.specs.Facts.{Stands}
use Rattle.check_state.specs.States.{Linked, facts_in}
use Rattle.check_equality.specs.Links.{Marked}
use Rattle.rules.specs.State.{Renaming, rename_facts}
use Rattle.check_equality.specs.Layout.{left_sides, relations_at}
use mathlib.Core.List.{List}
use mathlib.Core.Path.{◌≡◌}
use lib.ListN.{get_or}
use Rattle.check_labels.proofs.anew.rebuild.Given as goal

abbrev pub invariant-loop-i : goal.invariant-loop-i
invariant-loop-i l =
    (l.n ≤ l.i) × Linked l.key l.b l.n × Marked l.key l.marks (left_sides + 2 * l.n)
    × ((ρ : Renaming) (old : List ℕ) → Stands ρ old l.initial.key l.gone l.all → facts_in l.key l.b l.n ≡ rename_facts ρ (facts_in old l.initial.b l.i))
    × ((j : ℕ) → left_sides + 2 * l.i ≤ j → get_or l.key j 0 ≡ get_or l.initial.key j 0) × ((j : ℕ) → relations_at + l.i ≤ j → get_or l.b j 0 ≡ get_or l.initial.b j 0)
