use Rattle.check_entailment.proofs.Refusals.{passed-on}
use Rattle.check_equality.specs.Keys.{meaning}
use Rattle.check_state.specs.States.{state_of}
use Rattle.check_statements.proofs.Ruled.{return_refused, return-shown}
use Rattle.check_statements.proofs.return_rule.Goals as goal

pub returns-in_err-assign_rule : goal.returns-in_err-assign_rule
unfolding meaning
returns-in_err-assign_rule c =
    rw (passed-on _ _ c.from_residual.ensures.1)
    (return_refused c.args.x _ (state_of c.args.known.now.keys c.args.known.now.bytes) _ _ _ c.in_err-assign_rule.ensures)

pub returns : goal.returns
unfolding meaning
returns c =
    return-shown c.args.x _ (state_of c.args.known.now.keys c.args.known.now.bytes) _ _ c.in_ok-assign_rule.ensures _ c.assert_rule.ensures
