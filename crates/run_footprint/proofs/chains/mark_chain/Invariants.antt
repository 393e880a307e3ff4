use mathlib.Core.Path.{◌≡◌}
use Prim.Native.Nat.{◌-◌}
use Rattle.tables.specs.Layout.{holders_at, objects_at}
use Rattle.run_footprint.specs.Footprints.{chain_marked, field_in, start_in}
use Rattle.run_footprint.proofs.Regions.{Only}
use Rattle.run_footprint.proofs.chains.mark_chain.Given as goal

abbrev pub invariant-loop-i : goal.invariant-loop-i
invariant-loop-i l = Only holders_at objects_at l.initial.work l.work × (chain_marked l.work l.v.objects l.f (l.v.objects - l._i) l.at l.v.holder l.to ≡ chain_marked l.initial.work l.v.objects (field_in l.s) l.v.objects (start_in l.s) l.v.holder l.to)
