use Rattle.check_entries.proofs.Keeping.{Packing}
use Rattle.check_entries.proofs.pack.Given as goal

abbrev pub invariant-loop-i : goal.invariant-loop-i
invariant-loop-i l = Packing l.initial.b l.out l.i l.b l.n
