use mathlib.Core.List.{[]}
use lib.ListN.{length, take}
use mathlib.Core.Path.{◌≡◌}
use Rattle.run_footprint.specs.Footprints.{take_in, Sieve}
use Rattle.tables.specs.Decode.{atoms_from}
use Prim.Native.Nat.{◌≤◌, ◌-◌, ◌+◌}
use Rattle.run_footprint.proofs.footprint.Given as goal

abbrev pub invariant-loop-i : goal.invariant-loop-i
invariant-loop-i l = (l.count ≤ l.i) × (length l.shares ≡ 8) × (take_in l.work l.v (atoms_from l.work (l.first + l.i) (l.n - l.i)) (take l.count l.shares) ≡ take_in l.work l.v (atoms_from l.work l.first l.n) []) × Sieve (take l.count l.shares) l.seen
