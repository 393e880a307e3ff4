use Prim.Native.Nat.{◌+◌}
use Rattle.read_bytes.specs.Sets.{in_set}
use Rattle.rules.specs.Text.{up_to}
use lib.ListN.{drop}
use mathlib.Core.Path.{◌≡◌}
use Rattle.read_bytes.proofs.find_from.Given as goal

-- The invariant: the search from i on ends where the search from `at` on does.
abbrev pub invariant-loop-i : goal.invariant-loop-i
invariant-loop-i l = l.i + up_to (in_set l.set) (drop l.i l.l) ≡ l.at + up_to (in_set l.set) (drop l.at l.l)
