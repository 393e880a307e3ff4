use Rattle.check_inequality.specs.Ways.{number_like}
use borrow.Author.Tests.{le-leb, lt-leb}
use Rattle.check_inequality.proofs.by_numbers.number_like.Goals as goal

pub returns-then-k-lt-FIRST_NUMBER : goal.returns-then-k-lt-FIRST_NUMBER
unfolding number_like
returns-then-k-lt-FIRST_NUMBER c = rw (lt-leb _ _ c.if-k-lt-FIRST_NUMBER.true)

pub returns : goal.returns
unfolding number_like
returns c = rw (le-leb _ _ c.if-k-lt-FIRST_NUMBER.false) c.alike.ensures
