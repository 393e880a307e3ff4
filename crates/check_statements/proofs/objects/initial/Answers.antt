use Rattle.check_equality.proofs.Keys.{of-null, of_number}
use Rattle.check_statements.specs.Statements.{initial_of}
use borrow.Author.Tests.{eq-eqb, ne_eqb}
use Rattle.check_statements.proofs.objects.initial.Goals as goal

pub returns-then-kind-eq0 : goal.returns-then-kind-eq0
unfolding initial_of
returns-then-kind-eq0 c = rw (eq-eqb _ _ c.if-kind-eq0.true) of-null

pub returns-else-kind-eq0 : goal.returns-else-kind-eq0
unfolding initial_of
returns-else-kind-eq0 c = rw (ne_eqb _ _ c.if-kind-eq0.false) (of_number 0)
