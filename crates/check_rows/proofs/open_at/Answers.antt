use Rattle.check_entailment.specs.Answers.{Adds}
use Rattle.rules.specs.Answers.{Refusal}
use Rattle.rules.specs.Base.{Try}
use mathlib.Core.Path.{subst}
use Rattle.rules.specs.State as Rules
use Rattle.rules.specs.Rules.{rule}
use Rattle.check_rows.proofs.open_at.Goals as goal

pub returns : goal.returns
unfolding rule
returns c =
    subst (λ (t : Try Refusal Rules.State). Adds t c.open_rule.result c.open_rule.new.known.keys c.open_rule.new.known.bytes)
    (rw (c.x_at-y.ensures.0, c.y_at-x.ensures.0, c.member_at-f.ensures.0)) c.open_rule.ensures
