use lib.ListN.{drop}
use mathlib.Core.Path.{◌≡◌}
use Rattle.read_bytes.proofs.same_bytes.Given as goal

-- The invariant: the rests from i on are the same.
abbrev pub invariant-loop-i : goal.invariant-loop-i
invariant-loop-i l = drop l.i l.a ≡ drop l.i l.b
