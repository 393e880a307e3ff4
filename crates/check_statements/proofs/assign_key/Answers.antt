use Rattle.check_state.proofs.Whole.{whole}
use Rattle.check_statements.proofs.Ruled.{adds_same, adds-ok, assign-same, assign_other}
use mathlib.Core.Path.{sym}
use Rattle.check_statements.proofs.assign_key.Goals as goal

pub returns-then-k-variable_key : goal.returns-then-k-variable_key
returns-then-k-variable_key c =
    adds_same _ _ _ _ _ (sym (assign-same _ _ _ _ c.variable_key.ensures.0 c.if-k-variable_key.true)) (adds-ok _ _ (whole c.args.known.now.sound))

pub returns : goal.returns
returns c =
    adds_same _ _ _ _ _ (rw (c.removed-r.ensures, c.remove_to.ensures.same, c.stand_in-to.ensures) (sym (assign_other _ _ _ _ c.variable_key.ensures.0 c.if-k-variable_key.false))) c.add_equal.ensures
