use native.Mathlib.Omega.{arith}
use mathlib.Core.Path.{◌≡◌}
use Prim.Native.Nat.{suc, ◌+◌}
use Rattle.write_rows.specs.Puts.{put_bytes}
use Rattle.write_rows.proofs.put_four.Goals as goal

pub returns : goal.returns
unfolding put_bytes
returns c =
    let e : c.args.i + 1 ≡ suc c.args.i = omega arith in
    let f : c.args.i + 2 ≡ suc (suc c.args.i) = omega arith in
    let g : c.args.i + 3 ≡ suc (suc (suc c.args.i)) = omega arith in
    rw (e, f, g)
