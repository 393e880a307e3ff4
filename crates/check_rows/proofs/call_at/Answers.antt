use Rattle.check_rows.proofs.Operands.{call_at}
use Rattle.check_entailment.specs.Answers.{Adds}
use Rattle.rules.specs.Answers.{Refusal}
use Rattle.rules.specs.Base.{Try}
use mathlib.Core.Path.{subst}
use native.Mathlib.Omega.{arith}
use Rattle.rules.specs.State as Rules
use Rattle.rules.specs.Grammar.{statement_number}
use Rattle.check_rows.proofs.call_at.Goals as goal

pub call_rule-requires : goal.call_rule-requires
unfolding statement_number
call_rule-requires c =
    (c.requires.0, omega (arith, (c.requires.0.row_fits c.args.i c.requires.1).operands.method c.requires.2, c.member_at.ensures.0))

pub returns : goal.returns
unfolding statement_number
returns c =
    subst (λ (t : Try Refusal Rules.State). Adds t c.call_rule.result c.call_rule.new.known.keys c.call_rule.new.known.bytes) (call_at _ _ _ _ _ _ _ _ _ _ c.x_at-x.ensures.0 c.y_at-y.ensures.0 c.member_at.ensures.0 c.z_at-z.ensures.0 ((c.requires.0.row_fits c.args.i c.requires.1).operands.method c.requires.2)) c.call_rule.ensures
