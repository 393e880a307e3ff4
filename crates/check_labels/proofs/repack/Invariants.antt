use Rattle.check_labels.proofs.Repacking.{Packing}
use Rattle.check_labels.proofs.repack.Given as goal

abbrev pub invariant-loop-i : goal.invariant-loop-i
invariant-loop-i l = Packing l.initial.key l.initial.b l.gone l.i l.n l.key l.b
