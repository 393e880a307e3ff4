use Rattle.check_rows.proofs.Operands.{new-at}
use Rattle.check_entailment.specs.Answers.{Adds}
use Rattle.rules.specs.Answers.{Refusal}
use Rattle.rules.specs.Base.{Try}
use mathlib.Core.Path.{subst}
use native.Mathlib.Omega.{arith}
use Rattle.rules.specs.State as Rules
use Rattle.rules.specs.Grammar.{statement_number}
use Rattle.check_rows.proofs.new_at.Goals as goal

pub new_rule-requires : goal.new_rule-requires
unfolding statement_number
new_rule-requires c =
    let m = (c.requires.0.row_fits c.args.i c.requires.1).operands.class c.requires.2 in (omega (arith, m, c.member_at.ensures.0, c.requires.0.classes), rw c.member_at.ensures.0 (c.requires.0.class_fits _ m).count)

pub returns : goal.returns
unfolding statement_number
returns c =
    subst (λ (t : Try Refusal Rules.State). Adds t c.new_rule.result c.new_rule.new.known.keys c.new_rule.new.known.bytes) (new-at _ _ _ _ _ _ c.x_at-x.ensures.0 c.member_at.ensures.0 ((c.requires.0.row_fits c.args.i c.requires.1).operands.class c.requires.2)) c.new_rule.ensures
