use Prim.Native.Nat.{◌-◌}
use Rattle.check_state.specs.States.{state_of}
use Rattle.rules.specs.Rules.{add_fields}
use Rattle.tables.specs.Decode.{fields_from}
use mathlib.Core.Path.{◌≡◌}
use Rattle.check_statements.proofs.objects.add_fields.Given as goal

abbrev pub invariant-loop-j : goal.invariant-loop-j
invariant-loop-j l =
    add_fields l.x (fields_from l.w l.c 0 l.n) (state_of l.initial.known.keys l.initial.known.bytes) ≡ add_fields l.x (fields_from l.w l.c l.j (l.n - l.j)) (state_of l.known.keys l.known.bytes)
