use Rattle.read_names.specs.Rows.{NoKey}
use Rattle.read_names.proofs.next_key.Given as goal

-- The invariant: no row from `from` up to i has the key.
abbrev pub invariant-loop-i : goal.invariant-loop-i
invariant-loop-i l = NoKey l.work l.first l.from l.k l.i
