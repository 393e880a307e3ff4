use Rattle.read_scan.specs.Table.{start_of}
use Rattle.read_declarations.proofs.Steps.{Declaring}
use Rattle.read_declarations.proofs.declare.Given as goal

-- `declare` meets its contract: the lines before line i have their rows. Assumes nothing.
abbrev pub invariant-loop-i : goal.invariant-loop-i
invariant-loop-i l = Declaring l.text l.initial.work (start_of l.text l.i) l.c l.work
