use Rattle.lean_steps.proofs.Doing.{jump-does}
use Rattle.lean_steps.proofs.jump_step.Goals as goal

pub returns : goal.returns
returns c =
    jump-does c.requires.0 c.requires.1 _ c.target_at.ensures.0 c.next.ensures
