use Rattle.check_state.proofs.Whole.{whole}
use Rattle.check_entailment.proofs.Refusals.{passed-on}
use Rattle.check_state.specs.States.{state_of}
use Rattle.check_statements.proofs.Ruled.{adds_same}
use Rattle.check_statements.proofs.Opening.{open-null, open-object}
use Rattle.check_statements.proofs.chains.open_rule.Goals as goal

pub returns-in_err-object : goal.returns-in_err-object
returns-in_err-object c =
    rw (passed-on _ _ c.from_residual.ensures.1) (open-null _ _ _ _ _ (whole c.args.known.now.sound) _ c.in_err-object.ensures)

pub returns : goal.returns
returns c =
    adds_same _ _ _ _ _ (open-object _ _ _ (state_of c.args.known.now.keys c.args.known.now.bytes) c.in_ok-object.ensures) c.open_shown.ensures
