use Rattle.run_steps.proofs.Doing.{jump-does}
use mathlib.Core.Path.{◌∙◌}
use Rattle.run_steps.proofs.jump_step.Goals as goal

pub returns : goal.returns
returns c = jump-does c.requires.0 c.requires.1 (c.next.ensures ∙ rw c.target_at.ensures.0)
