use Rattle.check_state.specs.Questions.{variable_or}
use Rattle.check_forgetting.proofs.remove_to.Goals as goal

pub returns-in-Some : goal.returns-in-Some
unfolding variable_or
returns-in-Some c = rw c.in-Some.is c.replace.ensures

pub returns-in-None : goal.returns-in-None
unfolding variable_or
returns-in-None c = rw c.in-None.is c.erase.ensures
