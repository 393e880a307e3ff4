use mathlib.Core.Logic.{inl, inr}
use Rattle.lean_calls.proofs.Growing.{new-class, heap-full, new-does}
use Rattle.lean_calls.proofs.new_step.Goals as goal

pub field_count_at-n-requires : goal.field_count_at-n-requires
field_count_at-n-requires c =
    new-class c.requires.1 c.requires.0 _ c.member_at-class.ensures.0

pub returns-then-c : goal.returns-then-c
returns-then-c c =
    heap-full c.requires.1 c.requires.0 _ c.member_at-class.ensures.0 _ c.field_count_at-n.ensures.0 (inl c.if-c.true)

pub returns-then-fields : goal.returns-then-fields
returns-then-fields c =
    heap-full c.requires.1 c.requires.0 _ c.member_at-class.ensures.0 _ c.field_count_at-n.ensures.0 (inr c.if-fields.true)

pub make_object-requires : goal.make_object-requires
make_object-requires c =
    ((c.if-c.false, c.if-fields.false), new-class c.requires.1 c.requires.0 _ c.member_at-class.ensures.0)

pub returns : goal.returns
returns c =
    new-does c.requires.1 c.requires.0 _ c.member_at-class.ensures.0 _ c.field_count_at-n.ensures.0 c.if-c.false c.if-fields.false c.make_object.ensures _ _ c.base_of-b.ensures.0 c.x_at-x.ensures.0 c.put_word.ensures c.grow.ensures
