use Rattle.std.proofs.Common.{ℕ, ◌+◌, ◌*◌, Bool}
use Rattle.check_equality.specs.Layout.{left_sides}
use Rattle.check_state.specs.States.{facts}
use Rattle.check_scans.specs.Sides.{Tells}
use Rattle.check_scans.specs.Scans.{Scanned}
use Rattle.check_scans.proofs.first_touched.Given as goal

abbrev pub invariant-loop-i : goal.invariant-loop-i
invariant-loop-i g l =
    (test : ℕ → Bool) → Tells (goal.F-post g l.passes) test l.known.keys (left_sides + 2 * facts l.known.bytes) → Scanned test l.known.keys l.known.bytes l.i
