use Prim.Native.Nat.{◌+◌, ◌-◌}
use Rattle.check_formulas.specs.Formulas.{formula}
use Rattle.check_state.specs.States.{state_of}
use mathlib.Core.Path.{◌≡◌}
use Rattle.rules.specs.State as Rules
use Rattle.check_formulas.proofs.add.Given as goal

abbrev pub invariant-loop-i : goal.invariant-loop-i
invariant-loop-i l =
    Rules.add (formula l.w l.y l.z l.x l.a l.n) (state_of l.initial.known.keys l.initial.known.bytes) ≡ Rules.add (formula l.w l.y l.z l.x (l.a + l.i) (l.n - l.i)) (state_of l.known.keys l.known.bytes)
