use Rattle.std.proofs.Common.{ℕ}
use Rattle.check_equality.specs.Links.{Header}
use Rattle.check_scans.specs.Sides.{MappedKeys, Tells}
use Rattle.check_scans.proofs.Dropping.{MappedTo}
use Rattle.check_scans.proofs.sides.map_sides.Given as goal

abbrev pub invariant-loop-i : goal.invariant-loop-i
invariant-loop-i g l =
    Header l.key × ((f : ℕ → ℕ) → Tells (goal.F-post g l.map) f l.initial.key l.m → MappedKeys f l.initial.key l.from l.initial.key → MappedTo f l.initial.key l.i l.key)
