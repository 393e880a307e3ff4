use Rattle.check_entailment.proofs.Refusals.{passed-on, lost, left-lost, right-lost, both-found}
use Rattle.check_state.specs.States.{state_of}
use Rattle.check_state.specs.Questions.{resolved_as}
use mathlib.Core.Path.{◌∙◌}
use Rattle.check_entailment.proofs.sides.Goals as goal

pub returns-in_err-t : goal.returns-in_err-t
returns-in_err-t c =
    rw (passed-on _ _ c.from_residual.ensures.1) (left-lost (state_of c.args.known.now.keys c.args.known.now.bytes) _ _ _ (lost _ _ c.in_err-t.ensures.value c.in_err-t.ensures.ok_part ∙ c.resolve.ensures))

pub returns-in_err-u : goal.returns-in_err-u
unfolding resolved_as
returns-in_err-u c =
    rw (passed-on _ _ c.from_residual-in_err-u.ensures.1) (right-lost (state_of c.args.known.now.keys c.args.known.now.bytes) _ _ _ (rw c.in_ok-t.ensures.ok_part at c.resolve.ensures) _ (lost _ _ c.in_err-u.ensures.value c.in_err-u.ensures.ok_part ∙ c.resolve-2.ensures))

pub returns : goal.returns
unfolding resolved_as
returns c =
    both-found (state_of c.args.known.now.keys c.args.known.now.bytes) _ _ _ _ (rw c.in_ok-t.ensures.ok_part at c.resolve.ensures) (rw c.in_ok-u.ensures.ok_part at c.resolve-2.ensures)
