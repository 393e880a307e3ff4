use mathlib.Core.Path.{◌≡◌}
use Rattle.tables.specs.Decode.{program_in}
use Rattle.fill_blocks.specs.Blocks.{others_pass}
use Rattle.fill_blocks.proofs.Passing.{pass_from}
use Rattle.fill_blocks.proofs.others_pass.Given as goal

abbrev pub invariant-loop-j : goal.invariant-loop-j
invariant-loop-j l = others_pass (program_in l.work) l.m l.calling ≡ pass_from (program_in l.work) l.m l.calling l.j
