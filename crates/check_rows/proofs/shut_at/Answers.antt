use Rattle.check_entailment.specs.Answers.{Adds}
use Rattle.rules.specs.Answers.{Refusal}
use Rattle.rules.specs.Base.{Try}
use mathlib.Core.Path.{subst}
use Rattle.rules.specs.State as Rules
use Rattle.rules.specs.Rules.{rule}
use Rattle.check_rows.proofs.shut_at.Goals as goal

pub returns : goal.returns
unfolding rule
returns c =
    subst (λ (t : Try Refusal Rules.State). Adds t c.shut_rule.result c.shut_rule.new.known.keys c.shut_rule.new.known.bytes)
    (rw (c.x_at-x.ensures.0, c.member_at-f.ensures.0)) c.shut_rule.ensures
