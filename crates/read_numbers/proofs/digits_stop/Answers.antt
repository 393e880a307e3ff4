use lib.ListN.{drop, length-drop, length-take}
use native.Mathlib.Omega.{arith}
use Rattle.read_numbers.proofs.digits_stop.Goals as goal

pub returns-then-l-at-lt-MOST_DIGITS : goal.returns-then-l-at-lt-MOST_DIGITS
returns-then-l-at-lt-MOST_DIGITS c = omega (arith, length-take 10 (drop c.args.at c.args.l.now), length-drop c.args.at c.args.l.now)
