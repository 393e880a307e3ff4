use Rattle.std.proofs.Common.{arith, length-drop, length-take, get_or-drop, get_or-take}
use Rattle.check_state.proofs.kinds.Goals as goal

pub returns : goal.returns
returns c =
    rw c.copy_from_slice.ensures.after (record { size = simp (length-take, length-drop) (omega arith); at = λ i h. rw (get_or-take, get_or-drop) })
