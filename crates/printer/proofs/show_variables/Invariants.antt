use Prim.Native.Nat.{◌-◌, ◌≤◌}
use lib.ListN.{length}
use Rattle.printer.proofs.Variables.{Showing}
use Rattle.printer.proofs.show_variables.Given as goal

-- `printer::show_variables` meets its contract. Assumes nothing.
abbrev pub invariant-loop-at : goal.invariant-loop-at
invariant-loop-at l = (l.at ≤ length l.text) × Showing l.text l.results l.first l.initial.out l.at l.s l.out

abbrev pub decreases-loop-at : goal.decreases-loop-at
decreases-loop-at l = length l.text - l.at
