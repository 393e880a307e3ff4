use Rattle.check_state.specs.Questions.{Told}
use Rattle.check_state.specs.States.{slots_in, permission_at, permissions_in}
use Rattle.check_equality.specs.Keys.{term_of}
use Rattle.rules.specs.Base.{any}
use Rattle.rules.specs.State.{differ, two_entries}
use mathlib.Core.Bool.{false}
use mathlib.Core.Path.{◌≡◌}
use Rattle.check_inequality.proofs.two_entries.Given as goal

abbrev pub invariant-loop-j : goal.invariant-loop-j
invariant-loop-j l =
    (l.found ≡ false) × Told l.known.keys l.known.bytes (slots_in l.known.bytes) (λ same. any (λ p. differ same p (permission_at l.known.bytes l.i) (term_of l.t) (term_of l.u)) (permissions_in l.known.bytes l.j) ≡ false)

abbrev pub invariant-entries : goal.invariant-entries
invariant-entries l =
    (l.found ≡ false) × Told l.known.keys l.known.bytes (slots_in l.known.bytes) (λ same. two_entries same (permissions_in l.known.bytes l.i) (term_of l.t) (term_of l.u) ≡ false)
