use mathlib.Core.Path.{◌≡◌}
use mathlib.Core.List.{List}
use Prim.Native.Nat.{◌≤◌}
use lib.ListN.{length}
use Rattle.rules.specs.Grammar.{Operand}
use Rattle.read_grammar.specs.Rows.{operands_number}
use Rattle.read_fields.proofs.Spans.{Walk}
use Rattle.read_fields.proofs.operands_end.Given as goal

-- `operands_end` meets its contract: it walks the operands. Assumes nothing.
abbrev pub invariant-loop-left : goal.invariant-loop-left
invariant-loop-left l = (l.r ≤ length l.t) × ((os : List Operand) → l.operands ≡ operands_number os → Walk os l.t l.from l.left l.r)

abbrev pub decreases-loop-left : goal.decreases-loop-left
decreases-loop-left l = l.left
