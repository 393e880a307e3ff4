use Prim.Native.Nat.{◌<◌}
use mathlib.Core.Path.{◌≡◌}
use Rattle.tables.specs.Decode.{row_count, program_in}
use Rattle.fill_blocks.specs.Blocks.{calls_from}
use Rattle.fill_blocks.proofs.calls.Given as goal

abbrev pub invariant-loop-i : goal.invariant-loop-i
invariant-loop-i l = (l.i < row_count l.work) × (calls_from (program_in l.work) l.m l.from ≡ calls_from (program_in l.work) l.m l.i)
