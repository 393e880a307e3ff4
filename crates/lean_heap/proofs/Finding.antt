-- What reading a field of an object that is there needs and gives.
use mathlib.Core.Path.{◌≡◌, sym}
use mathlib.Core.List.{List}
use Prim.Native.Nat.{ℕ, ◌-◌, ◌≤◌, ◌<◌}
use native.Mathlib.Omega.{arith}
use Rattle.rules.specs.Limits.{heap_objects, heap_fields, most_classes}
use Rattle.run_heap.specs.Views.{class_in}
use Rattle.run_heap.proofs.Reading.{Placed, cell-placed, cell-small}
use Rattle.lean_heap.specs.Ghosts.{There, cell_in}

module _ {w : List ℕ} {o f : ℕ} (T : There w o f) where
  placed : Placed w T.objects o f T.cell
  placed = cell-placed w T.objects o f T.cell T.is_cell

  index_is : o - 1 ≡ placed.index
  index_is = omega (arith, placed.is-object)

  pub there-object : (1 ≤ o) × (o - 1 < heap_objects)
  there-object = (omega (arith, placed.is-object), omega (arith, index_is, placed.exists, T.few))

  pub there-class : class_in w (o - 1) < most_classes
  there-class = rw index_is (omega (arith, (T.fit placed.index placed.exists).class, T.tables.classes))

  pub there-cell : cell_in w o f ≡ T.cell
  there-cell = rw index_is (sym placed.is_cell)

  pub there-small : cell_in w o f < heap_fields
  there-small = rw there-cell (cell-small o f T.tables T.fit T.is_cell)
