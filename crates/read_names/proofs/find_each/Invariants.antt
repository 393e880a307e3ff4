use Rattle.read_names.proofs.Searches.{At}
use Rattle.read_names.specs.Rows.{entry_at, is_entry}
use Rattle.read_names.proofs.find_each.Given as goal

-- The invariant: among the rows from i on the first stands where it stands among all.
abbrev pub invariant-loop-i : goal.invariant-loop-i
invariant-loop-i l = At (is_entry l.owner l.x) (entry_at l.text l.work) l.first l.count l.i
