use Rattle.check_state.proofs.Whole.{whole}
use Rattle.check_entailment.proofs.Refusals.{passed-on}
use Rattle.check_statements.proofs.Opening.{open-refused, open_done}
use Rattle.check_statements.proofs.chains.open_shown.Goals as goal

pub returns-in_err-take : goal.returns-in_err-take
returns-in_err-take c =
    rw (passed-on _ _ c.from_residual.ensures.1)
    (open-refused c.args.known.now.keys c.args.known.now.bytes (whole c.args.known.now.sound) _ c.kinds-left.ensures _ _ c.take.new.left _ _ c.variable_key-v.ensures.0 _ c.in_err-take.ensures.1)

pub returns : goal.returns
returns c =
    open_done c.args.known.now.keys c.args.known.now.bytes (whole c.args.known.now.sound) _ c.kinds-left.ensures _ _ c.take.new.left _ _ c.variable_key-v.ensures.0 c.in_ok-take.ensures.1
    _ _ _ _ c.remainder.ensures c.remove.ensures _ _ _ c.add_opened.ensures
