use mathlib.Core.Path.{◌≡◌}
use Rattle.rules.specs.Bounds.{first_repeating}
use Rattle.tables.specs.Decode.{program_in}
use Rattle.bound_lines.specs.Lines.{place_of}
use Rattle.bound_lines.proofs.Firsts.{place_from}
use Rattle.bound_lines.proofs.first_line.Given as goal

abbrev pub invariant-loop-a : goal.invariant-loop-a
invariant-loop-a l = (place_from l.work l.a ≡ place_of (first_repeating (program_in l.work)))
