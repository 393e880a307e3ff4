use Rattle.check_equality.specs.Links.{rel_of}
use Rattle.rules.specs.State.{holds_in}
use Rattle.check_inequality.proofs.holds.Goals as goal

pub returns-then-apart : goal.returns-then-apart
unfolding rel_of
returns-then-apart c = rw c.if-apart.true c.differ.ensures

pub returns-else-apart : goal.returns-else-apart
unfolding rel_of holds_in
returns-else-apart c = rw c.if-apart.false c.equal.ensures
