use mathlib.Core.List.{[]}
use mathlib.Core.Path.{◌≡◌}
use Prim.Native.Nat.{◌-◌}
use lib.ListN.{length}
use Rattle.targets.specs.Targets.{StackFits, stack_of, targets_from}
use Rattle.targets.proofs.set_targets.Given as goal

-- `targets::set_targets` meets its contract. Assumes nothing.
abbrev pub invariant-loop-i : goal.invariant-loop-i
invariant-loop-i l =
    (length l.work ≡ 65536) × StackFits l.o.depth l.o.rows
    × (targets_from l.work l.i (l.n - l.i) (stack_of l.o.depth l.o.rows) ≡ targets_from l.initial.work 0 l.n [])
