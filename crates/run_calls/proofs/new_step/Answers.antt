use native.Mathlib.Omega.{arith}
use mathlib.Core.Path.{◌∙◌}
use mathlib.Core.Logic.{inl, inr}
use Rattle.run_calls.proofs.Growing.{new-small, new-stops, new-does}
use Rattle.run_steps.proofs.Doing.{size, fits, row_small, base-fits}
use Rattle.rules.specs.Grammar.{statement_number}
use Rattle.run_calls.proofs.new_step.Goals as goal

pub field_count_at-n-requires : goal.field_count_at-n-requires
unfolding statement_number
field_count_at-n-requires c =
    omega (arith, c.member_at-class.ensures.0, (fits c.requires.0.0).class c.requires.0.1, c.requires.0.0.represents.tables.classes)

pub returns-then-most_objects-c : goal.returns-then-most_objects-c
returns-then-most_objects-c c =
    new-stops c.requires.0.0 c.requires.0.1 _ _ c.requires.1.0 c.requires.1.1 _ _ c.member_at-class.ensures.0 c.field_count_at-n.ensures.0 (inl c.if-most_objects-c.true)

pub returns-then-most_fields-fields : goal.returns-then-most_fields-fields
returns-then-most_fields-fields c =
    new-stops c.requires.0.0 c.requires.0.1 _ _ c.requires.1.0 c.requires.1.1 _ _ c.member_at-class.ensures.0 c.field_count_at-n.ensures.0 (inr c.if-most_fields-fields.true)

pub make_object-requires : goal.make_object-requires
make_object-requires c =
    ((omega (arith, c.if-most_objects-c.false, c.requires.1), omega (arith, c.if-most_fields-fields.false, c.requires.1)), (new-small c.requires.0.0 c.requires.0.1 _ _ c.requires.1.0 c.requires.1.1 _ _ c.member_at-class.ensures.0 c.field_count_at-n.ensures.0).0)

pub overflow_add-b : goal.overflow_add-b
overflow_add-b c =
    omega (arith, base-fits c.requires.0.0 c.view_of-v.ensures, c.x_at-x.ensures.0, (fits c.requires.0.0).x, size c.requires.0.0, c.make_object.auto.work)

pub overflow_add-c : goal.overflow_add-c
overflow_add-c c =
    omega (arith, c.if-most_objects-c.false, c.requires.1)

pub put_word-requires : goal.put_word-requires
put_word-requires c =
    omega (arith, base-fits c.requires.0.0 c.view_of-v.ensures, c.x_at-x.ensures.0, (fits c.requires.0.0).x, size c.requires.0.0, c.make_object.auto.work)

pub grow-requires : goal.grow-requires
grow-requires c =
    (c.requires.0.0.more, (omega (arith, c.if-most_objects-c.false, c.requires.1), (omega (arith, c.if-most_fields-fields.false, c.requires.1), row_small c.requires.0.0)))

pub returns : goal.returns
returns c =
    new-does c.requires.0.0 c.requires.0.1 _ _ c.requires.1.0 c.requires.1.1 _ _ c.member_at-class.ensures.0 c.field_count_at-n.ensures.0 _ _ c.if-most_objects-c.false c.if-most_fields-fields.false c.view_of-v.ensures c.x_at-x.ensures.0 (c.put_word.ensures ∙ rw c.make_object.ensures) c.grow.ensures
