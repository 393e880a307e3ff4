use Rattle.check_entailment.specs.Answers.{Adds}
use Rattle.rules.specs.Answers.{Refusal}
use Rattle.rules.specs.Base.{Try}
use Rattle.check_statements.specs.Statements.{release_rule}
use mathlib.Core.Path.{subst}
use Rattle.rules.specs.State as Rules
use Rattle.rules.specs.Rules.{rule}
use Rattle.check_rows.proofs.release_at.Goals as goal

pub returns : goal.returns
unfolding rule release_rule
returns c =
    subst (λ (t : Try Refusal Rules.State). Adds t c.release_rule.result c.release_rule.new.known.keys c.release_rule.new.known.bytes) (rw (c.first_atom_at-a.ensures.0, c.atom_count_at.ensures.0)) c.release_rule.ensures
