use Rattle.lean_heap.proofs.Following.{has_base}
use Rattle.lean_steps.proofs.Doing.{open-operands, open-does}
use borrow.Author.Rules.{rules}
use Rattle.lean_steps.proofs.open_step.Goals as goal

pub path_value-n-requires : goal.path_value-n-requires
path_value-n-requires c =
    let o = open-operands c.requires.0 c.requires.1 _ _ _ c.base_of-b.ensures.0 c.y_at-x.ensures.0 c.member_at-f.ensures.0 in ((has_base c.requires.0 c.base_of-b.ensures.0, o.0), o.1)

pub returns : goal.returns
returns c =
    open-does c.requires.0 c.requires.1 _ _ _ c.base_of-b.ensures.0 c.y_at-x.ensures.0 c.member_at-f.ensures.0 _ _ c.path_value-n.ensures (search rules) c.x_at-y.ensures.0 c.put_word.ensures c.next.ensures
