use Rattle.check_entailment.proofs.Refusals.{passed-on}
use Rattle.check_statements.proofs.Ruled.{adds_same, adds-refused, adds_on, field-fact}
use Rattle.check_statements.specs.Statements.{add_opened}
use Rattle.check_state.specs.States.{permit_of}
use Rattle.check_statements.proofs.chains.add_opened.Goals as goal

pub returns-in_err-add_entry : goal.returns-in_err-add_entry
unfolding add_opened permit_of
returns-in_err-add_entry c =
    rw (passed-on _ _ c.from_residual.ensures.1) (adds-refused _ _ _ _ _ c.in_err-add_entry.ensures.0)

pub returns-in_err-add_fact : goal.returns-in_err-add_fact
unfolding add_opened permit_of
returns-in_err-add_fact c =
    let fact = field-fact _ _ _ _ _ _ c.path_key-path.ensures.0 c.variable_key-value.ensures.0 in
    rw (passed-on _ _ c.from_residual-in_err-add_fact.ensures.1)
    (adds_on _ _ _ _ c.in_ok-add_entry.ensures.0 _ _ _ (adds-refused _ _ _ _ _ (adds_same _ _ _ _ _ fact c.in_err-add_fact.ensures)))

pub returns : goal.returns
unfolding add_opened permit_of
returns c =
    let fact = field-fact _ _ _ _ _ _ c.path_key-path.ensures.0 c.variable_key-value.ensures.0 in
    adds_on _ _ _ _ c.in_ok-add_entry.ensures.0 _ _ _
    (adds_on _ _ _ _ (adds_same _ _ _ _ _ fact c.in_ok-add_fact.ensures) _ _ _ c.add_entry-2.ensures.0)
