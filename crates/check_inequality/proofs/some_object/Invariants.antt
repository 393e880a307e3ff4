use Rattle.check_state.specs.Questions.{Told}
use Rattle.check_state.specs.States.{slots_in, permissions_in}
use Rattle.check_equality.specs.Keys.{term_of}
use Rattle.rules.specs.Base.{any}
use Rattle.rules.specs.Syntax.{var, is_path}
use mathlib.Core.Bool.{false, ◌&&◌}
use mathlib.Core.Path.{◌≡◌}
use Rattle.check_inequality.proofs.some_object.Given as goal

abbrev pub invariant-loop-i : goal.invariant-loop-i
invariant-loop-i l =
    Told l.known.keys l.known.bytes (slots_in l.known.bytes) (λ same. any (λ p. is_path p.permit && same (var p.variable) (term_of l.k)) (permissions_in l.known.bytes l.i) ≡ false)
