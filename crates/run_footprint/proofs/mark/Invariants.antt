use mathlib.Core.Path.{◌≡◌}
use lib.ListN.{take, drop}
use Rattle.tables.specs.Layout.{holders_at, objects_at}
use Rattle.run_footprint.specs.Footprints.{spread, marked}
use Rattle.run_footprint.proofs.Regions.{Only}
use Rattle.run_footprint.proofs.mark.Given as goal

abbrev pub invariant-loop-i : goal.invariant-loop-i
invariant-loop-i l = Only holders_at objects_at l.initial.work l.work × (marked l.work (spread l.initial.work l.v.objects (drop l.i (take l.n l.shares))) l.v.holder l.to ≡ marked l.initial.work (spread l.initial.work l.v.objects (take l.n l.shares)) l.v.holder l.to)
