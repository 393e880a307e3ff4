use Rattle.check_state.proofs.Whole.{whole}
use Rattle.check_entailment.proofs.Refusals.{passed-on}
use Rattle.check_entailment.proofs.Adding.{relation-unadded, relation-added}
use Rattle.check_entailment.proofs.add_relation.Goals as goal

pub returns-in_err-t : goal.returns-in_err-t
returns-in_err-t c =
    rw (passed-on _ _ c.from_residual.ensures.1) (relation-unadded _ _ _ _ _ _ c.in_err-t.ensures (whole c.args.known.now.sound))

pub returns : goal.returns
returns c =
    relation-added c.args.known.now.keys c.args.known.now.bytes _ _ _ _ _ c.in_ok-t.ensures _ _ _ c.add_fact.ensures
