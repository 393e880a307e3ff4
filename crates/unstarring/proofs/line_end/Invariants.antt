use mathlib.Core.Path.{◌≡◌}
use Prim.Native.Nat.{◌+◌}
use lib.ListN.{drop}
use Rattle.rules.specs.Text.{up_to}
use Rattle.unstarring.proofs.Lines.{is_feed}
use Rattle.unstarring.proofs.line_end.Given as goal

-- `unstarring::line_end` meets its contract. Assumes nothing.
abbrev pub invariant-loop-i : goal.invariant-loop-i
invariant-loop-i l = l.i + up_to is_feed (drop l.i l.text) ≡ l.at + up_to is_feed (drop l.at l.text)
