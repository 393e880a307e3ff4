use Rattle.rules.specs.Base.{check, ◌>>◌}
use Rattle.read_scan.specs.Scans.{next_place}
use Rattle.read_scan.proofs.next_place.Goals as goal

-- `next_place` meets its contract. Assumes nothing.
pub returns-then-within : goal.returns-then-within
unfolding next_place check ◌>>◌
returns-then-within c = rw (c.if-in_place.true, c.if-within.true)

pub returns-then-in_place : goal.returns-then-in_place
unfolding next_place check ◌>>◌
returns-then-in_place c = rw (c.if-in_place.true, c.if-within.false)

pub returns : goal.returns
unfolding next_place check ◌>>◌
returns c = rw c.if-in_place.false
