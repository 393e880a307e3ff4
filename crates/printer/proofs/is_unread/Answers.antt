use Rattle.rules.specs.Base.{between}
use borrow.Author.Tests.{lt-leb, le-leb}
use Rattle.printer.proofs.is_unread.Goals as goal

-- `printer::is_unread` meets its contract. Assumes nothing.
pub returns-then-n-lt-WRONG_LENGTH : goal.returns-then-n-lt-WRONG_LENGTH
unfolding between
returns-then-n-lt-WRONG_LENGTH c = rw (lt-leb 1 _ c.if-n-lt-WRONG_LENGTH.true)

pub returns : goal.returns
unfolding between
returns c = rw (le-leb 1 _ c.if-n-lt-WRONG_LENGTH.false)
