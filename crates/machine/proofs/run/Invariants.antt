use Prim.Native.Nat.{◌-◌}
use Rattle.machine.proofs.Running.{Going}
use Rattle.machine.proofs.run.Given as goal

abbrev pub invariant-loop-c : goal.invariant-loop-c
invariant-loop-c l = Going (record { objects = l.most_objects; fields = l.most_fields }) l.initial.work l.work l.steps l.c

abbrev pub decreases-loop-c : goal.decreases-loop-c
decreases-loop-c l = l.steps - l.c.steps
