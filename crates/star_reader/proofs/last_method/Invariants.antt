use mathlib.Core.Path.{◌≡◌}
use Prim.Native.Nat.{pred, ◌≤◌}
use Rattle.star_reader.specs.StarRead.{headers_in}
use Rattle.star_reader.proofs.last_method.Given as goal

-- `star_reader::last_method` meets its contract. Assumes nothing.
abbrev pub invariant-loop-i : goal.invariant-loop-i
invariant-loop-i l = (l.next ≡ headers_in l.work l.i) × (l.last ≡ pred l.next) × (l.next ≤ l.i)
