use Prim.Native.Nat.{◌-◌}
use Rattle.rules.specs.Limits.{most_methods}
use Rattle.tables.specs.Tables.{Tables}
use Rattle.bound_lines.proofs.Seeks.{Search}
use Rattle.bound_lines.proofs.queue.reach.Given as goal

abbrev pub invariant-loop-head : goal.invariant-loop-head
invariant-loop-head l = (T : Tables l.work) × Search l.work T l.c l.q l.head

abbrev pub decreases-loop-head : goal.decreases-loop-head
decreases-loop-head l = most_methods - l.head
