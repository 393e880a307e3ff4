use mathlib.Core.Path.{◌≡◌}
use Rattle.rules.specs.Syntax.{num}
use Rattle.rules.specs.State.{numbers}
use Rattle.rules.proofs.Rising.{least}
use Rattle.check_equality.specs.Keys.{term_of}
use Rattle.check_state.specs.States.{slots_in}
use Rattle.check_state.specs.Questions.{Told}
use Rattle.check_successors.specs.Successors.{number_or, Numbered, side_terms}
use Rattle.check_successors.proofs.least_number.Given as goal

abbrev pub invariant-loop-i : goal.invariant-loop-i
invariant-loop-i l =
    Numbered l.best × Told l.known.keys l.known.bytes (slots_in l.known.bytes) (λ same. number_or l.best ≡ least (λ v. same (num v) (term_of l.t)) (numbers (side_terms l.known.keys l.i)))
