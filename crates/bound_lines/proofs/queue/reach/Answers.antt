use Rattle.bound_lines.proofs.Seeks.{search-begun, search-done}
use Rattle.bound_lines.proofs.queue.reach.Goals as goal

pub loop-head-init : goal.loop-head-init
loop-head-init c = (c.requires.0, search-begun _ c.requires.0 _ _ c.begin-q.ensures c.requires.1)

pub returns : goal.returns
returns c =
    search-done _ c.loop-head.invariant.0 _ c.loop-head.q c.loop-head.head c.loop-head.invariant.1 c.loop-head-test.false
