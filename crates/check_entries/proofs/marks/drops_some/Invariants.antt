use Rattle.check_entries.specs.PathsOut.{dropped_at}
use Rattle.check_state.specs.Questions.{places}
use Rattle.rules.specs.Base.{any}
use mathlib.Core.Bool.{false}
use mathlib.Core.Path.{◌≡◌}
use Rattle.check_entries.proofs.marks.drops_some.Given as goal

abbrev pub invariant-loop-i : goal.invariant-loop-i
invariant-loop-i l = (any (dropped_at l.b l.out l.n) (places l.i) ≡ false)
