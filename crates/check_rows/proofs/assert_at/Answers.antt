use Rattle.check_state.proofs.Whole.{whole}
use Rattle.check_statements.proofs.Ruled.{asserted}
use Rattle.check_entailment.specs.Answers.{Adds}
use Rattle.rules.specs.Answers.{Refusal}
use Rattle.rules.specs.Base.{Try}
use mathlib.Core.Path.{subst}
use Rattle.rules.specs.State as Rules
use Rattle.rules.specs.Rules.{rule}
use Rattle.check_rows.proofs.assert_at.Goals as goal

pub returns : goal.returns
unfolding rule
returns c =
    subst (λ (t : Try Refusal Rules.State). Adds t c.assert_rule.result c.args.known.now.keys c.args.known.now.bytes) (rw (c.first_atom_at-a.ensures.0, c.atom_count_at.ensures.0)) (asserted _ _ _ _ (whole c.args.known.now.sound) c.assert_rule.ensures)
