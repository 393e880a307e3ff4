use Rattle.lean_calls.proofs.Calling.{method-small, frames-full, call-does}
use borrow.Author.Rules.{rules}
use Rattle.lean_calls.proofs.call_step.Goals as goal

pub returns-then-c : goal.returns-then-c
returns-then-c c = frames-full c.requires.1 c.requires.0 c.if-c.true

pub first_row_at-first-requires : goal.first_row_at-first-requires
first_row_at-first-requires c =
    method-small c.requires.1 c.requires.0 c.member_at-m.ensures.0

pub returns : goal.returns
returns c =
    call-does c.requires.1 c.requires.0 _ _ _ _ _ _ _ c.if-c.false c.base_of-b.ensures.0 c.y_at-y.ensures.0 c.variable-o.ensures (search rules) c.z_at-z.ensures.0 c.variable-p.ensures (search rules) c.member_at-m.ensures.0 c.first_row_at-first.ensures.0 c.prepare.ensures c.call_in.ensures
