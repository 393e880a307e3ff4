use borrow.Author.Tests.{lt-ltb, le-ltb}
use Rattle.check_labels.specs.Labels.{lone_of}
use Rattle.check_labels.proofs.lone.Goals as goal

pub returns-then-x-lt-VARIABLE_COUNT : goal.returns-then-x-lt-VARIABLE_COUNT
unfolding lone_of
returns-then-x-lt-VARIABLE_COUNT c = rw (lt-ltb _ 15 c.if-x-lt-VARIABLE_COUNT.true)

pub returns-else-x-lt-VARIABLE_COUNT : goal.returns-else-x-lt-VARIABLE_COUNT
unfolding lone_of
returns-else-x-lt-VARIABLE_COUNT c = rw (le-ltb _ 15 c.if-x-lt-VARIABLE_COUNT.false)
