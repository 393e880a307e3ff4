use Rattle.check_labels.proofs.Relabelling.{Naming}
use Rattle.check_labels.proofs.relabel.Given as goal

abbrev pub invariant-loop-i : goal.invariant-loop-i
invariant-loop-i l = Naming l.initial.b l.x l.i l.name l.b
