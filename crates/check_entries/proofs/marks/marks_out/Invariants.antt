use Rattle.check_entries.specs.PathsOut.{MarksOut}
use Rattle.check_entries.proofs.marks.marks_out.Given as goal

abbrev pub invariant-loop-i : goal.invariant-loop-i
invariant-loop-i l = MarksOut l.b l.out l.i l.marks
