use Rattle.check_inequality.specs.Ways.{unequal_at}
use borrow.Author.Tests.{eq-eqb, ne_eqb}
use Rattle.check_inequality.proofs.by_facts.unequal_at.Goals as goal

pub returns-then-c-eq-UNEQUAL : goal.returns-then-c-eq-UNEQUAL
unfolding unequal_at
returns-then-c-eq-UNEQUAL c = rw (eq-eqb _ _ c.if-c-eq-UNEQUAL.true) c.either_way.ensures

pub returns-else-c-eq-UNEQUAL : goal.returns-else-c-eq-UNEQUAL
unfolding unequal_at
returns-else-c-eq-UNEQUAL c = rw (ne_eqb _ _ c.if-c-eq-UNEQUAL.false)
