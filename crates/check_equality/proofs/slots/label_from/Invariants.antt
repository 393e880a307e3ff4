use Rattle.check_equality.specs.Links.{Missing}
use Rattle.check_equality.proofs.slots.label_from.Given as goal

abbrev pub invariant-loop-i : goal.invariant-loop-i
invariant-loop-i l = Missing l.key l.i l.k 255
