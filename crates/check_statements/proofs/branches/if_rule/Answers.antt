use Rattle.check_state.proofs.Whole.{whole}
use Rattle.check_entailment.proofs.Refusals.{passed-on}
use mathlib.Core.Path.{ap₂}
use Rattle.check_state.specs.States.{state_of}
use Rattle.check_statements.proofs.Conditions.{if-refused, if-done, other}
use Rattle.check_statements.proofs.branches.if_rule.Goals as goal

pub returns-in_err-add_relation : goal.returns-in_err-add_relation
returns-in_err-add_relation c =
    rw (passed-on _ _ c.from_residual.ensures.1)
    (if-refused _ _ _ (state_of c.args.known.now.keys c.args.known.now.bytes) _ _ _ _ _ c.in_err-add_relation.ensures (whole c.args.other.now.sound))

pub returns : goal.returns
returns c =
    if-done _ _ _ (state_of c.args.known.now.keys c.args.known.now.bytes) _ _ _ _ c.in_ok-add_relation.ensures _ (other c.args.apart) _ (ap₂ state_of c.requires.0 c.requires.1) _ c.add_relation-2.ensures
