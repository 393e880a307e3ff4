use Rattle.check_entries.specs.Entries.{kind_left}
use borrow.Author.Tests.{eq-eqb, ne_eqb}
use Rattle.check_entries.proofs.kind_left.Goals as goal

pub returns-then-left-eq0 : goal.returns-then-left-eq0
unfolding kind_left
returns-then-left-eq0 c = rw (eq-eqb _ _ c.if-left-eq0.true)

pub returns-else-left-eq0 : goal.returns-else-left-eq0
unfolding kind_left
returns-else-left-eq0 c = rw (ne_eqb _ _ c.if-left-eq0.false)
