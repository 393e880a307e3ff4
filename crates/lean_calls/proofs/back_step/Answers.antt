use Rattle.lean_heap.proofs.Following.{has_base}
use Rattle.lean_calls.proofs.Returning.{source-small, saved-small, back_done, back-does}
use borrow.Author.Rules.{rules}
use Rattle.lean_calls.proofs.back_step.Goals as goal

pub returns-then-c-eq1 : goal.returns-then-c-eq1
returns-then-c-eq1 c = back_done c.requires.1 c.requires.0 c.if-c-eq1.true

pub variable-n-requires : goal.variable-n-requires
variable-n-requires c =
    (has_base c.requires.0 c.base_of-b.ensures.0, source-small c.requires.1 c.requires.0 c.source-s.ensures)

pub x_at-x-requires : goal.x_at-x-requires
x_at-x-requires c =
    saved-small c.requires.1 c.requires.0 c.if-c-eq1.false _ c.saved_row-row.ensures.0

pub returns : goal.returns
returns c =
    back-does c.requires.1 c.requires.0 _ _ _ _ _ c.if-c-eq1.false c.base_of-b.ensures.0 c.source-s.ensures c.variable-n.ensures (search rules) c.saved_row-row.ensures.0 c.x_at-x.ensures.0 c.put_word.ensures c.back_in.ensures
