use Prim.Native.Nat.{◌-◌}
use Rattle.rules.specs.Rules.{check_blocks, check_program}
use Rattle.tables.specs.Decode.{methods_from, method_count, program_in}
use mathlib.Core.Path.{◌≡◌}
use Rattle.checker.proofs.check.Given as goal

abbrev pub invariant-loop-m : goal.invariant-loop-m
invariant-loop-m l =
    check_program (program_in l.w) ≡ check_blocks (program_in l.w) (methods_from l.w l.m (method_count l.w - l.m))
