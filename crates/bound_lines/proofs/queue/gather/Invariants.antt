use Prim.Native.Nat.{◌-◌}
use Rattle.tables.specs.Decode.{row_count}
use Rattle.tables.specs.Tables.{Tables}
use Rattle.bound_lines.proofs.Seeks.{Gathering}
use Rattle.bound_lines.proofs.queue.gather.Given as goal

abbrev pub invariant-loop-d : goal.invariant-loop-d
invariant-loop-d l = (T : Tables l.work) × Gathering l.work T l.c l.m l.initial.k l.k l.row

abbrev pub decreases-loop-d : goal.decreases-loop-d
decreases-loop-d l = row_count l.work - l.row
