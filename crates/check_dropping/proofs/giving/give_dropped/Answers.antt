use Rattle.std.proofs.Common.{rules}
use Rattle.check_state.proofs.Whole.{whole}
use Rattle.check_dropping.proofs.GivingWay.{side-copied}
use Rattle.check_dropping.proofs.giving.give_dropped.Goals as goal

pub returns-then-i-eq0 : goal.returns-then-i-eq0
returns-then-i-eq0 c = let w = whole c.args.old.now.sound in search rules

pub returns : goal.returns
returns c =
    side-copied _ _ _ _ _ _ _ _ c.requires.1 (whole c.args.old.now.sound) c.requires.0.1 c.requires.2 c.requires.0.0 c.if-i-eq0.false
