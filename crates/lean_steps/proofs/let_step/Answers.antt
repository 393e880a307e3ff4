use Rattle.lean_heap.proofs.Following.{has_base}
use Rattle.lean_steps.proofs.Doing.{let-small, let-readable, let-does}
use borrow.Author.Rules.{rules}
use Rattle.lean_steps.proofs.let_step.Goals as goal

pub right_at-requires : goal.right_at-requires
right_at-requires c =
    let-small c.requires.0 c.requires.1 _ c.first_atom_at-a.ensures.0

pub value-n-requires : goal.value-n-requires
value-n-requires c =
    (has_base c.requires.0 c.base_of-b.ensures.0, let-readable c.requires.0 c.requires.1 _ _ _ c.first_atom_at-a.ensures.0 c.base_of-b.ensures.0 c.right_at.ensures)

pub returns : goal.returns
returns c =
    let-does c.requires.0 c.requires.1 _ _ _ c.first_atom_at-a.ensures.0 c.base_of-b.ensures.0 c.right_at.ensures _ _ c.value-n.ensures (search rules) c.x_at-x.ensures.0 c.put_word.ensures c.next.ensures
