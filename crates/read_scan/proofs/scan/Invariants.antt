use Prim.Native.Nat.{◌≤◌, ◌-◌}
use lib.ListN.{length}
use Rattle.read_scan.proofs.Scans.{Passed}
use Rattle.read_scan.proofs.Table.{Tabled}
use Rattle.read_scan.proofs.scan.Given as goal

-- `scan` meets its contract: what the lines that are left give from the present place is what the text gives, and the lines before
-- it stand in the table. Assumes nothing.
abbrev pub invariant-loop-at : goal.invariant-loop-at
invariant-loop-at l = (l.at ≤ length l.text) × Passed l.text l.at l.n l.p × Tabled l.text l.work l.at l.n

abbrev pub decreases-loop-at : goal.decreases-loop-at
decreases-loop-at l = length l.text - l.at
