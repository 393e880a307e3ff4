use borrow.Author.Tests.{eq-eqb, ne_eqb}
use Rattle.check_labels.specs.Labels.{even}
use Rattle.check_labels.proofs.both.Goals as goal

pub returns-then-c-eq-UNEQUAL : goal.returns-then-c-eq-UNEQUAL
unfolding even
returns-then-c-eq-UNEQUAL c = rw (eq-eqb _ _ c.if-c-eq-UNEQUAL.true)

pub returns-then-g : goal.returns-then-g
unfolding even
returns-then-g c = rw (ne_eqb _ _ c.if-c-eq-UNEQUAL.false, c.if-g.true)

pub returns : goal.returns
unfolding even
returns c = rw (ne_eqb _ _ c.if-c-eq-UNEQUAL.false, c.if-g.false)
