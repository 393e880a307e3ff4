use Rattle.check_state.proofs.Whole.{whole}
use Rattle.check_entailment.proofs.Refusals.{passed-on}
use Rattle.check_statements.proofs.Ruled.{call-refused, call-done}
use Rattle.check_statements.proofs.call_shown.Goals as goal

pub returns-in_err-show : goal.returns-in_err-show
returns-in_err-show c =
    rw (passed-on _ _ c.from_residual.ensures.1)
    (call-refused c.args.w.now _ _ c.args.m _ c.args.known.now.keys c.args.known.now.bytes _ _ c.requires_first-a.ensures.0 c.requires_count-n.ensures.0 c.show.new.left _ c.in_err-show.ensures.1 (whole c.args.known.now.sound))

pub returns : goal.returns
returns c =
    call-done c.args.w.now _ _ c.args.m _ c.args.known.now.keys c.args.known.now.bytes _ _ c.requires_first-a.ensures.0 c.requires_count-n.ensures.0 c.show.new.left c.in_ok-show.ensures.1
    _ _ _ _ c.remainder.ensures c.remove.ensures _ _ c.ensures_first-c.ensures.0 c.ensures_count-o.ensures.0 _ _ _ c.add.ensures
