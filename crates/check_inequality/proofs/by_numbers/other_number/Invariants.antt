use Rattle.check_state.specs.Questions.{places}
use Rattle.check_inequality.specs.Ways.{other_in}
use Rattle.rules.specs.Base.{any}
use mathlib.Core.Bool.{false}
use mathlib.Core.Path.{◌≡◌}
use Rattle.check_inequality.proofs.by_numbers.other_number.Given as goal

abbrev pub invariant-loop-i : goal.invariant-loop-i
invariant-loop-i l = (any (other_in l.key l.label l.l l.b l.j) (places l.i) ≡ false)
