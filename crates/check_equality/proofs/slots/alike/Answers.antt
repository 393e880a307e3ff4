use Rattle.check_equality.specs.Links.{alike_by}
use borrow.Author.Tests.{eq-eqb, ne_eqb}
use Rattle.check_equality.proofs.slots.alike.Goals as goal

pub returns-then-a-eq-NO_LABEL : goal.returns-then-a-eq-NO_LABEL
unfolding alike_by
returns-then-a-eq-NO_LABEL c = rw (eq-eqb _ _ c.if-a-eq-NO_LABEL.true)

pub returns-else-a-eq-NO_LABEL : goal.returns-else-a-eq-NO_LABEL
unfolding alike_by
returns-else-a-eq-NO_LABEL c = rw (ne_eqb _ _ c.if-a-eq-NO_LABEL.false)
