use Rattle.check_state.proofs.Whole.{whole}
use Rattle.check_dropping.proofs.GivingWay.{giving-first, given-first}
use Rattle.check_dropping.proofs.giving.give_way.Goals as goal

pub loop-j-init : goal.loop-j-init
loop-j-init c =
    rw c.requires.0 (giving-first _ _ _ _ _ _ (whole c.args.old.now.sound).linked.header c.told-gone, given-first _ _ _ _ _ _ c.requires.1.flags)
