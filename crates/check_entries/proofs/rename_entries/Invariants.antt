use Rattle.check_entries.specs.Entries.{RenamedEntries}
use Rattle.check_entries.proofs.rename_entries.Given as goal

abbrev pub invariant-loop-i : goal.invariant-loop-i
invariant-loop-i l = RenamedEntries l.x l.to l.initial.b l.i l.b
