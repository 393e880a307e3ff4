use borrow.Author.Tests.{lt-ltb, le-ltb}
use Rattle.check_labels.specs.Labels.{with_label}
use Rattle.check_labels.proofs.set_label.Goals as goal

pub returns-then-x-lt-VARIABLE_COUNT : goal.returns-then-x-lt-VARIABLE_COUNT
unfolding with_label
returns-then-x-lt-VARIABLE_COUNT c = rw (lt-ltb _ 15 c.if-x-lt-VARIABLE_COUNT.true)

pub returns-else-x-lt-VARIABLE_COUNT : goal.returns-else-x-lt-VARIABLE_COUNT
unfolding with_label
returns-else-x-lt-VARIABLE_COUNT c = rw (le-ltb _ 15 c.if-x-lt-VARIABLE_COUNT.false)
