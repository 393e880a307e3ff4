use Rattle.std.proofs.Common.{◌≡◌, ℕ, Bool, length}
use Rattle.check_equality.specs.Layout.{slots}
use Rattle.check_scans.specs.Sides.{Dropped, Tells}
use Rattle.check_scans.proofs.sides.drop_sides.Given as goal

abbrev pub invariant-loop-i : goal.invariant-loop-i
invariant-loop-i g l =
    (length l.gone ≡ slots) × ((test : ℕ → Bool) → Tells (goal.F-post g l.passes) test l.key l.m → Dropped test l.key l.from l.initial.gone → Dropped test l.key l.i l.gone)
