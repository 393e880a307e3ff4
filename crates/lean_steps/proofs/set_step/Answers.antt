use native.Mathlib.Omega.{arith}
use Rattle.lean_heap.proofs.Following.{has-row, has_base, x-small, y-small}
use Rattle.lean_steps.proofs.Doing.{set-operands, set_does}
use borrow.Author.Rules.{rules}
use Rattle.lean_steps.proofs.set_step.Goals as goal

pub variable-o-requires : goal.variable-o-requires
variable-o-requires c =
    (has_base c.requires.0 c.base_of-b.ensures.0, x-small c.requires.0 c.x_at-x.ensures.0)

pub cell_of-k-requires : goal.cell_of-k-requires
cell_of-k-requires c =
    set-operands c.requires.0 c.requires.1 _ _ _ c.base_of-b.ensures.0 c.x_at-x.ensures.0 c.member_at-f.ensures.0 _ c.variable-o.ensures

pub variable-n-requires : goal.variable-n-requires
variable-n-requires c =
    (has_base c.requires.0 c.base_of-b.ensures.0, y-small c.requires.0 c.y_at-y.ensures.0)

pub overflow_add-c : goal.overflow_add-c
overflow_add-c c =
    omega (arith, has-row c.requires.0)

pub returns : goal.returns
returns c =
    set_does c.requires.0 c.requires.1 _ _ _ c.base_of-b.ensures.0 c.x_at-x.ensures.0 c.member_at-f.ensures.0 _ _ _ _ c.variable-o.ensures c.cell_of-k.ensures.0 c.cell_of-k.ensures.1 c.y_at-y.ensures.0 c.variable-n.ensures (search rules) c.put_word.ensures c.next.ensures
