use mathlib.Core.Path.{◌≡◌}
use Prim.Native.Nat.{◌+◌, ◌-◌}
use lib.ListN.{length}
use Rattle.write_rows.specs.Puts.{put_bytes, blank}
use Rattle.write_rows.proofs.fill.Given as goal

-- `write_rows::fill` meets its contract. Assumes nothing.
abbrev pub invariant-loop-i : goal.invariant-loop-i
invariant-loop-i l =
    (length l.work ≡ length l.initial.work) × (put_bytes l.work (l.at + l.i) (blank (l.n - l.i)) ≡ put_bytes l.initial.work l.at (blank l.n))
