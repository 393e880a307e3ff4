use Prim.Native.Nat.{◌-◌}
use lib.ListN.{length}
use Rattle.resolve_atoms.proofs.Formulas.{Writing}
use Rattle.resolve_atoms.proofs.put_formula.Given as goal

-- `resolve_atoms::put_formula` meets its contract. Assumes nothing.
abbrev pub invariant-loop-c : goal.invariant-loop-c
invariant-loop-c l = Writing l.text l.initial.work l.c l.from l.first l.work l.r l.n l.v

abbrev pub decreases-loop-c : goal.decreases-loop-c
decreases-loop-c l = length l.text - l.r
