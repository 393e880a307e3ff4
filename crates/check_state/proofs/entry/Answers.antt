use Rattle.check_state.proofs.Whole.{whole}
use Rattle.rules.specs.State.{equal_in}
use Rattle.check_state.proofs.entry.Goals as goal

pub returns : goal.returns
unfolding equal_in
returns c = c.find.ensures _ (whole c.args.known.now.sound).linked.decides
