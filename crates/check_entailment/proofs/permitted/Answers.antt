use Rattle.check_entailment.specs.Answers.{answered, refusal_of}
use Rattle.rules.specs.Base.{◌>>◌, check}
use Rattle.rules.specs.State.{shown_by}
use Rattle.check_entailment.proofs.permitted.Goals as goal

pub returns-then-shown : goal.returns-then-shown
unfolding answered refusal_of shown_by check ◌>>◌
returns-then-shown c kept = rw c.if-shown.true

pub returns-else-shown : goal.returns-else-shown
unfolding answered refusal_of shown_by check ◌>>◌
returns-else-shown c kept = rw c.if-shown.false
