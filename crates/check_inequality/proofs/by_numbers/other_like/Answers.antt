use Rattle.check_inequality.specs.Ways.{other_like}
use borrow.Author.Tests.{eq-eqb, ne_eqb}
use Rattle.check_inequality.proofs.by_numbers.other_like.Goals as goal

pub returns-then-j-k : goal.returns-then-j-k
unfolding other_like
returns-then-j-k c = rw (eq-eqb _ _ c.if-j-k.true)

pub returns : goal.returns
unfolding other_like
returns c = rw (ne_eqb _ _ c.if-j-k.false) c.number_like.ensures
