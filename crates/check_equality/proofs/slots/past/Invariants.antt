use Prim.Native.Nat.{◌+◌, ◌*◌}
use Rattle.check_equality.specs.Links.{Past}
use Rattle.check_equality.proofs.slots.past.Given as goal

abbrev pub invariant-loop-n : goal.invariant-loop-n
invariant-loop-n l = Past l.key l.m l.k (16 + l.n * 4)
