use mathlib.Core.Path.{◌≡◌}
use Prim.Native.Nat.{◌-◌}
use lib.ListN.{drop}
use Rattle.rules.specs.Text.{is_formula}
use Rattle.read_fields.specs.Cuts.{more}
use Rattle.read_fields.specs.Spans.{Span}
use Rattle.read_fields.proofs.formula_end.Given as goal

-- `formula_end` meets its contract. The fields that are left are a formula where all are one. Assumes nothing.
abbrev pub invariant-loop : goal.invariant-loop
invariant-loop l = Span l.t l.from l.r × (is_formula (l.most - l.counter) (more (drop l.r l.t)) ≡ is_formula l.most (more (drop l.from l.t)))
