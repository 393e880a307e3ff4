use Rattle.check_state.proofs.Whole.{whole}
use mathlib.Core.Path.{◌∙◌}
use Rattle.check_entailment.proofs.Refusals.{passed-on}
use Rattle.check_statements.proofs.Ruled.{adds_same, empty-add, plain-term}
use Rattle.check_statements.proofs.Conditions.{sides-add, invariant-unshown, invariant-refused, invariant-known}
use Rattle.check_statements.proofs.branches.loop_rule.Goals as goal

pub returns-in_err-show_end : goal.returns-in_err-show_end
returns-in_err-show_end c =
    rw (passed-on _ _ c.from_residual.ensures.1) (invariant-unshown _ _ _ _ _ _ c.in_err-show_end.ensures _ _ (whole c.args.known.now.sound))

pub returns-in_err-add : goal.returns-in_err-add
returns-in_err-add c =
    rw (passed-on _ _ c.from_residual-in_err-add.ensures.1)
    (invariant-refused _ _ _ _ _ c.in_ok-show_end.ensures _ _ _ (adds_same _ _ _ _ _ (empty-add _ _ _ _ c.forget_all.ensures.same) c.in_err-add.ensures))

pub returns : goal.returns
returns c =
    invariant-known _ _ _ _ _ c.in_ok-show_end.ensures _ _ (adds_same _ _ _ _ _ (empty-add _ _ _ _ c.forget_all.ensures.same) c.in_ok-add.ensures)
    _ _ _ (sides-add _ _ _ _ _ _ (c.left-l.ensures ∙ plain-term _) (c.right-r.ensures ∙ plain-term _) _ _ _ c.add_relation.ensures)
