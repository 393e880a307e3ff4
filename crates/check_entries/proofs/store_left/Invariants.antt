use Rattle.check_entries.specs.Entries.{StoredLeft, OutBy}
use Rattle.check_entries.proofs.store_left.Given as goal

abbrev pub invariant-loop-i : goal.invariant-loop-i
invariant-loop-i l = StoredLeft l.initial.b l.left l.i l.b × OutBy l.left l.i l.out
