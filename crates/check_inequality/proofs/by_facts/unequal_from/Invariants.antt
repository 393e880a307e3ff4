use Rattle.check_state.specs.Questions.{places}
use Rattle.check_inequality.specs.Ways.{unequal_in}
use Rattle.rules.specs.Base.{any}
use mathlib.Core.Bool.{false}
use mathlib.Core.Path.{◌≡◌}
use Rattle.check_inequality.proofs.by_facts.unequal_from.Given as goal

abbrev pub invariant-loop-i : goal.invariant-loop-i
invariant-loop-i l = (any (unequal_in l.b l.x l.y) (places l.i) ≡ false)
