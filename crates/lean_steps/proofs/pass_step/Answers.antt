use Rattle.lean_steps.proofs.Doing.{pass-does}
use Rattle.lean_steps.proofs.pass_step.Goals as goal

pub returns : goal.returns
returns c = pass-does c.requires.0 c.requires.1 c.next.ensures
