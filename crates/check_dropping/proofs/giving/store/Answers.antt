use Rattle.check_dropping.proofs.GivingWay.{stored-none, stored-key}
use Rattle.check_successors.specs.Successors.{term_or}
use Rattle.check_dropping.proofs.giving.store.Goals as goal

pub returns-in_default : goal.returns-in_default
unfolding term_or
returns-in_default c = rw c.in_default.is (stored-none _ _ _ c.requires.0 c.requires.1 c.requires.2 c.told-gone)

pub returns : goal.returns
unfolding term_or
returns c = rw c.in-Some.is (stored-key _ _ _ c.requires.0 c.requires.1 c.requires.2 c.told-gone _)
