use borrow.Author.Tests.{eq-eqb, ne_eqb}
use Rattle.check_successors.specs.Successors.{number_with}
use Rattle.check_successors.proofs.number_at.Goals as goal

pub returns-then-c-a : goal.returns-then-c-a
unfolding number_with
returns-then-c-a c = rw (eq-eqb _ _ c.if-c-a.true)

pub returns : goal.returns
unfolding number_with
returns c = rw (ne_eqb _ _ c.if-c-a.false)
