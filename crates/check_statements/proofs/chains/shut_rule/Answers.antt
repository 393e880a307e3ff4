use Rattle.check_state.proofs.Whole.{whole}
use Rattle.check_entailment.proofs.Refusals.{passed-on}
use Rattle.check_equality.specs.Keys.{meaning}
use Rattle.check_state.specs.States.{state_of}
use Rattle.check_state.specs.Questions.{resolved_as}
use Rattle.check_statements.proofs.Ruled.{adds_same}
use Rattle.check_statements.proofs.Opening.{shut-lost, shut-found}
use mathlib.Core.Path.{sym}
use Rattle.check_statements.proofs.chains.shut_rule.Goals as goal

pub returns-in_err-p : goal.returns-in_err-p
unfolding meaning resolved_as
returns-in_err-p c =
    rw (passed-on _ _ c.from_residual.ensures.1)
    (shut-lost _ _ _ _ (whole c.args.known.now.sound) _ (rw c.in_err-p.ensures.ok_part at c.in_err-p.ensures.value) (rw c.in_err-p.ensures.ok_part at c.resolve.ensures))

pub returns : goal.returns
unfolding meaning resolved_as
returns c =
    adds_same _ _ _ _ _ (shut-found _ _ (state_of c.args.known.now.keys c.args.known.now.bytes) _ (sym (rw c.in_ok-p.ensures.ok_part at c.resolve.ensures))) c.shut_path.ensures
