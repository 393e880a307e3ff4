use Rattle.check_state.proofs.Whole.{whole}
use Rattle.check_entailment.proofs.Refusals.{passed-on}
use Rattle.check_statements.proofs.Opening.{shut-first, shut-second, shut-done}
use Rattle.check_statements.proofs.chains.shut_path.Goals as goal

pub returns-in_err-take : goal.returns-in_err-take
returns-in_err-take c =
    rw (passed-on _ _ c.from_residual.ensures.1)
    (shut-first c.args.known.now.keys c.args.known.now.bytes (whole c.args.known.now.sound) _ c.kinds-left.ensures _ _ c.take.new.left _ _ c.in_err-take.ensures.1)

pub returns-in_err-take-2 : goal.returns-in_err-take-2
returns-in_err-take-2 c =
    rw (passed-on _ _ c.from_residual-in_err-take-2.ensures.1)
    (shut-second c.args.known.now.keys c.args.known.now.bytes (whole c.args.known.now.sound) _ c.kinds-left.ensures _ _ c.take.new.left _ c.in_ok-take.ensures.1 _ c.variable_key-v.ensures.0 c.take-2.new.left _ c.in_err-take-2.ensures.1)

pub returns : goal.returns
returns c =
    shut-done c.args.known.now.keys c.args.known.now.bytes (whole c.args.known.now.sound) _ c.kinds-left.ensures _ _ c.take.new.left _ c.in_ok-take.ensures.1 _ c.variable_key-v.ensures.0 c.take-2.new.left
    c.in_ok-take-2.ensures.1 _ _ c.remainder.ensures _ _ _ c.add_entry.ensures.0
