use mathlib.Core.Path.{◌≡◌}
use Prim.Native.Nat.{◌≤◌, ◌+◌, ◌*◌}
use lib.ListN.{take, drop}
use Rattle.run_footprint.specs.Footprints.{taken_by}
use Rattle.run_footprint.proofs.taken.Given as goal

abbrev pub invariant-loop-i : goal.invariant-loop-i
invariant-loop-i l = (l.t + taken_by l.work l.v.objects l.f l.k (drop l.i (take l.n l.shares)) ≡ taken_by l.work l.v.objects l.f l.k (take l.n l.shares)) × (l.t ≤ 3 * l.i)
