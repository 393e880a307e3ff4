use Rattle.read_numbers.proofs.Numbers.{below-range, range-from}
use mathlib.Core.Path.{sym}
use Rattle.read_numbers.proofs.in_range.Goals as goal

pub returns-then-value-minuses : goal.returns-then-value-minuses
returns-then-value-minuses c = sym (below-range c.args.minuses c.args.value c.if-value-minuses.true)

pub returns : goal.returns
returns c = range-from c.args.minuses c.args.value c.if-value-minuses.false
