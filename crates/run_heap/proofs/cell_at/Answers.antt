use Rattle.run_heap.specs.Views.{answered, present, stop_of, class_in}
use Rattle.run_heap.proofs.Reading.{cell-absent, cell-is}
use Rattle.std.proofs.Common.{◌≡◌, sym, ◌∙◌}
use Rattle.tables.specs.Tables.{place_at}
use Rattle.run_heap.proofs.cell_at.Goals as goal

pub returns-then-p-eq-NO_PLACE : goal.returns-then-p-eq-NO_PLACE
unfolding answered present stop_of
returns-then-p-eq-NO_PLACE c =
    let e : place_at c.args.work.now (class_in c.args.work.now c.args.i) c.args.f ≡ 255 = rw (← c.class_of-c.ensures) (sym c.place_at-p.ensures.0 ∙ c.if-p-eq-NO_PLACE.true) in rw (cell-absent c.args.work.now c.args.v.objects c.args.i c.args.f e)

pub returns : goal.returns
unfolding answered present
returns c =
    rw (cell-is _ _ _ _ _ _ _ c.class_of-c.ensures c.place_at-p.ensures.0 c.if-p-eq-NO_PLACE.false c.first_of.ensures.0 c.requires.1.0 c.requires.1.1)
