use Rattle.lean_heap.proofs.Following.{has-row, has-kind, has_base}
use Rattle.lean_steps.proofs.Doing.{loop-first, condition-small, left-readable, right-readable, condition-holds, condition-fails}
use Rattle.lean_steps.proofs.choose_step.Goals as goal

pub condition_at-a-requires : goal.condition_at-a-requires
condition_at-a-requires c =
    ((has-row c.requires.0, has-kind c.requires.0), loop-first c.requires.0)

pub left_at-requires : goal.left_at-requires
left_at-requires c =
    condition-small c.requires.0 c.requires.1 c.condition_at-a.ensures

pub value-l-requires : goal.value-l-requires
value-l-requires c =
    (has_base c.requires.0 c.base_of-b.ensures.0, left-readable c.requires.0 c.requires.1 c.condition_at-a.ensures _ _ c.base_of-b.ensures.0 c.left_at.ensures)

pub right_at-requires : goal.right_at-requires
right_at-requires c =
    condition-small c.requires.0 c.requires.1 c.condition_at-a.ensures

pub value-r-requires : goal.value-r-requires
value-r-requires c =
    (has_base c.requires.0 c.base_of-b.ensures.0, right-readable c.requires.0 c.requires.1 c.condition_at-a.ensures _ _ c.base_of-b.ensures.0 c.right_at.ensures)

pub kind_of_atom-requires : goal.kind_of_atom-requires
kind_of_atom-requires c =
    condition-small c.requires.0 c.requires.1 c.condition_at-a.ensures

pub returns-then-compare : goal.returns-then-compare
returns-then-compare c =
    condition-holds c.requires.0 c.requires.1 c.condition_at-a.ensures _ _ _ _ _ _ _ c.base_of-b.ensures.0 c.left_at.ensures c.right_at.ensures c.value-l.ensures c.value-r.ensures c.kind_of_atom.ensures c.compare.ensures c.if-compare.true c.next.ensures

pub returns : goal.returns
returns c =
    condition-fails c.requires.0 c.requires.1 c.condition_at-a.ensures _ _ _ _ _ _ _ c.base_of-b.ensures.0 c.left_at.ensures c.right_at.ensures c.value-l.ensures c.value-r.ensures c.kind_of_atom.ensures c.compare.ensures c.if-compare.false _ c.target_at.ensures.0 c.next-2.ensures
