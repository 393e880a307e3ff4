use Rattle.check_state.proofs.Whole.{whole}
use Rattle.check_entailment.proofs.Refusals.{passed-on}
use Rattle.check_statements.proofs.Ruled.{adds_same, empty-add, join_first, join-second, join-done}
use Rattle.check_statements.proofs.branches.join_rule.Goals as goal

pub returns-in_err-show_end : goal.returns-in_err-show_end
returns-in_err-show_end c =
    rw (passed-on _ _ c.from_residual.ensures.1) (join_first _ _ _ _ c.in_err-show_end.ensures _ _ (whole c.args.known.now.sound))

pub returns-in_err-show_end-2 : goal.returns-in_err-show_end-2
returns-in_err-show_end-2 c =
    rw (passed-on _ _ c.from_residual-in_err-show_end-2.ensures.1)
    (join-second _ _ _ c.in_ok-show_end.ensures _ c.in_err-show_end-2.ensures _ _ (whole c.args.known.now.sound))

pub returns : goal.returns
returns c =
    join-done _ _ _ c.in_ok-show_end.ensures c.in_ok-show_end-2.ensures _ _ _
    (adds_same _ _ _ _ _ (empty-add _ _ _ _ c.forget_all.ensures.same) c.add.ensures)
