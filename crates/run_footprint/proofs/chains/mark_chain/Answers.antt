use mathlib.Core.Path.{◌≡◌, sym, ◌∙◌}
use Prim.Native.Nat.{◌<◌, ◌-◌}
use Rattle.tables.specs.Layout.{most_names}
use Rattle.run_heap.proofs.Reading.{cell-small, found-is, answered-ok, answered-err}
use Rattle.run_heap.proofs.Walking.{found_none}
use Rattle.run_footprint.proofs.Regions.{only-refl, only-trans}
use Rattle.run_footprint.proofs.Handing.{only-handed}
use Rattle.run_footprint.proofs.Cells.{readable-kept, caches-kept, over-on, over-end, over-past}
use native.Mathlib.Omega.{arith}
use Rattle.run_footprint.proofs.chains.mark_chain.Goals as goal

pub cache_of-c-requires : goal.cache_of-c-requires
cache_of-c-requires c =
    (c.requires, omega (arith, c.field_of-f.ensures))

pub loop-i-init : goal.loop-i-init
loop-i-init c =
    (only-refl _ _ _, let e : c.args.v.objects - 0 ≡ c.args.v.objects = omega arith in rw (e, c.field_of-f.ensures, c.start_of-at.ensures))

pub cell_by-requires : goal.cell_by-requires
cell_by-requires c =
    let l : c.field_of-f.result < most_names = omega (arith, c.field_of-f.ensures) in
    ((readable-kept c.loop-i.invariant.0 c.requires, caches-kept c.loop-i.invariant.0 c.requires _ _ l c.cache_of-c.ensures), l)

pub returns-in_default : goal.returns-in_default
returns-in_default c =
    sym (over-end _ _ _ _ _ _ _ _ c.loop-i-test.true (found_none _ _ _ _ _ (answered-err _ _ c.in_default.is c.cell_by.ensures))) ∙ c.loop-i.invariant.1

pub cell_value-at-requires : goal.cell_value-at-requires
cell_value-at-requires c =
    let R = readable-kept c.loop-i.invariant.0 c.requires in cell-small _ _ R.tables R.object (found-is _ _ _ _ _ (answered-ok _ _ c.in-Ok.is c.cell_by.ensures))

pub hand_over-requires : goal.hand_over-requires
hand_over-requires c =
    let R = readable-kept c.loop-i.invariant.0 c.requires in cell-small _ _ R.tables R.object (found-is _ _ _ _ _ (answered-ok _ _ c.in-Ok.is c.cell_by.ensures))

pub loop-i-preserved : goal.loop-i-preserved
loop-i-preserved c =
    let R = readable-kept c.loop-i.invariant.0 c.requires in
    let e = found-is _ _ _ _ _ (answered-ok _ _ c.in-Ok.is c.cell_by.ensures) in
    (rw c.hand_over.ensures (only-trans c.loop-i.invariant.0 (only-handed _ _ _ _ _ (cell-small _ _ R.tables R.object e))), rw (c.hand_over.ensures, c.cell_value-at.ensures) (over-on _ _ _ _ _ _ _ _ _ c.loop-i-test.true e ∙ c.loop-i.invariant.1))

pub returns : goal.returns
returns c =
    sym (over-past _ _ _ _ _ _ _ _ c.loop-i-test.false) ∙ c.loop-i.invariant.1
