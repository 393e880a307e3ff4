use mathlib.Core.Path.{◌≡◌}
use Prim.Native.Nat.{◌-◌, ◌<◌}
use Rattle.tables.specs.Decode.{row_count}
use Rattle.bound_lines.specs.Lines.{owner_of, first_of}
use Rattle.bound_lines.proofs.first_in.Given as goal

abbrev pub invariant-loop-row : goal.invariant-loop-row
invariant-loop-row l = (l.row < row_count l.work) × (first_of l.work (owner_of l.owner) l.row ≡ first_of l.work (owner_of l.owner) l.start)

abbrev pub decreases-loop-row : goal.decreases-loop-row
decreases-loop-row l = row_count l.work - l.row
