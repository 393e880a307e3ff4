use Rattle.check_successors.specs.Successors.{MarksLike}
use Rattle.check_successors.proofs.marks_like.Given as goal

abbrev pub invariant-loop-i : goal.invariant-loop-i
invariant-loop-i l = MarksLike l.known.keys l.known.bytes l.i l.t l.a l.marks
