use Prim.Native.Nat.{◌-◌}
use Rattle.tables.specs.Decode.{row_count}
use Rattle.bound_walk.proofs.Counted.{Scanning}
use Rattle.bound_walk.proofs.counting.scan.Given as goal

abbrev pub invariant-loop-s : goal.invariant-loop-s
invariant-loop-s l = Scanning l.work l.o l.row l.sum l.frames

abbrev pub decreases-loop-s : goal.decreases-loop-s
decreases-loop-s l = row_count l.work - l.row
