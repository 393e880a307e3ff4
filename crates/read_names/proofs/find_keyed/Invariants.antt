use Rattle.std.proofs.Common.{◌≤◌, ◌-◌}
use Rattle.read_names.proofs.Searches.{At}
use Rattle.read_names.specs.Rows.{entry_at, is_entry}
use Rattle.read_names.proofs.find_keyed.Given as goal

-- The invariant: among the rows from `from` on the first stands where it stands among all.
abbrev pub invariant-loop-i : goal.invariant-loop-i
invariant-loop-i l = (l.from ≤ l.count) × At (is_entry l.owner l.x) (entry_at l.text l.work) l.first l.count l.from

abbrev pub decreases-loop-i : goal.decreases-loop-i
decreases-loop-i l = l.count - l.from
