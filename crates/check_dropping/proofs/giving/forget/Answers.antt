use Rattle.check_state.proofs.Whole.{whole}
use Rattle.check_dropping.proofs.GivingWay.{gave-way}
use Rattle.check_dropping.proofs.Ways.{gave_keeps, gave-untouched}
use Rattle.check_dropping.proofs.giving.forget.Goals as goal

pub repack-requires : goal.repack-requires
repack-requires c =
    (gave_keeps _ _ _ _ _ _ _ _ c.requires.1 c.give_way.ensures (whole c.args.known.now.sound) c.requires.0 (c.whole.ensures c.if-whole.true), gave-untouched _ _ _ _ _ _ _ _ c.requires.1 c.give_way.ensures)

pub returns-then-whole : goal.returns-then-whole
returns-then-whole c = gave-way _ _ _ _ _ _ _ _ _ _ c.give_way.ensures c.repack.ensures

pub returns : goal.returns
returns c = gave-way _ _ _ _ _ _ _ _ _ _ c.give_way.ensures c.rebuild.ensures
