use Rattle.check_state.proofs.Whole.{whole}
use Rattle.check_entailment.proofs.Refusals.{passed-on, lost}
use Rattle.check_state.specs.States.{state_of}
use Rattle.check_state.specs.Questions.{resolved_as}
use Rattle.check_statements.proofs.Ruled.{adds_same, assign-found, assign-lost}
use mathlib.Core.Path.{sym, ◌∙◌}
use Rattle.check_statements.proofs.assign_rule.Goals as goal

pub returns-in_err-k : goal.returns-in_err-k
returns-in_err-k c =
    rw (passed-on _ _ c.from_residual.ensures.1)
    (assign-lost _ _ _ _ (whole c.args.known.now.sound) _ (lost _ _ c.in_err-k.ensures.value c.in_err-k.ensures.ok_part ∙ c.resolve.ensures))

pub returns : goal.returns
unfolding resolved_as
returns c =
    adds_same _ _ _ _ _ (sym (assign-found _ _ _ (state_of c.args.known.now.keys c.args.known.now.bytes) (sym (rw c.in_ok-k.ensures.ok_part at c.resolve.ensures)))) c.assign_key.ensures
