use Rattle.std.proofs.Common.{◌<◌, sym, ◌∙◌, arith}
use Rattle.rules.specs.Limits.{most_classes}
use Rattle.run_heap.specs.Views.{answered, present}
use Rattle.run_heap.proofs.Reading.{cell-is}
use Rattle.run_heap.proofs.chains.cell_in.Goals as goal

pub returns-then-class_of-c : goal.returns-then-class_of-c
unfolding answered present
returns-then-class_of-c c =
    let l : c.args.c.class < most_classes = omega (arith, c.class_of.ensures, c.if-class_of-c.true, (c.requires.0.0.object c.args.i c.requires.1.0).class, c.requires.0.0.tables.classes) in
    rw (cell-is _ _ _ _ _ _ _ (sym c.if-class_of-c.true ∙ c.class_of.ensures) (sym (c.requires.0.1.is_place l)) (c.requires.0.1.has_place l) c.first_of.ensures.0 c.requires.1.0 c.requires.1.1)
