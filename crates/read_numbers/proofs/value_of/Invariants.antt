use Rattle.rules.specs.Text.{decimal}
use lib.ListN.{drop}
use mathlib.Core.Path.{◌≡◌}
use Rattle.read_numbers.proofs.value_of.Given as goal

-- The invariant: what is left writes, after the number so far, the whole number.
abbrev pub invariant-loop-i : goal.invariant-loop-i
invariant-loop-i l = decimal l.n (drop l.i l.w) ≡ decimal 0 l.w
