use Rattle.check_state.specs.Questions.{resolved_as, path_at}
use Rattle.rules.specs.Base.{ok}
use Rattle.rules.specs.State.{path_of}
use borrow.Author.Tests.{lt-ltb, le-ltb}
use mathlib.Core.Path.{ap}
use Rattle.check_state.proofs.path_at.Goals as goal

pub returns-then-i-b : goal.returns-then-i-b
unfolding resolved_as path_at path_of
returns-then-i-b c = rw (lt-ltb _ _ c.if-i-b.true) (ap ok c.path_key.ensures.0)

pub returns : goal.returns
unfolding resolved_as path_at
returns c = rw (le-ltb _ _ c.if-i-b.false)
