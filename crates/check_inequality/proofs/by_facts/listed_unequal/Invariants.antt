use Prim.Native.Nat.{◌*◌}
use Rattle.check_state.specs.Questions.{places}
use Rattle.check_inequality.specs.Ways.{unequal_in}
use Rattle.rules.specs.Base.{any}
use mathlib.Core.Bool.{false}
use mathlib.Core.Path.{◌≡◌}
use Rattle.check_inequality.proofs.by_facts.listed_unequal.Given as goal

abbrev pub invariant-loop-g : goal.invariant-loop-g
invariant-loop-g l = any (unequal_in l.b l.x l.y) (places (l.g * 8)) ≡ false
