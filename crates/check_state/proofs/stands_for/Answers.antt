use Rattle.check_state.specs.Questions.{stands_for}
use borrow.Author.Tests.{eq-eqb, ne_eqb}
use Rattle.check_state.proofs.stands_for.Goals as goal

pub returns-then-v-x : goal.returns-then-v-x
unfolding stands_for
returns-then-v-x c = λ fs D. rw (eq-eqb _ _ c.if-v-x.true)

pub returns : goal.returns
unfolding stands_for
returns c =
    λ fs D. rw (ne_eqb _ _ c.if-v-x.false) (c.variable_is.ensures fs D)
