use Rattle.check_state.specs.Questions.{places}
use Rattle.check_inequality.specs.Ways.{two_numbers}
use Rattle.rules.specs.Base.{any}
use mathlib.Core.Bool.{false}
use mathlib.Core.Path.{◌≡◌}
use Rattle.check_inequality.proofs.by_numbers.different_numbers.Given as goal

abbrev pub invariant-loop-i : goal.invariant-loop-i
invariant-loop-i l = (any (two_numbers l.key l.label l.n l.t l.a l.u l.b) (places l.i) ≡ false)
