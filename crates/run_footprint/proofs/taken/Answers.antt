use mathlib.Core.Path.{◌≡◌}
use lib.ListN.{length}
use Rattle.run_footprint.proofs.Shares.{sum-on, sum_past}
use native.Mathlib.Omega.{arith}
use Rattle.run_footprint.proofs.taken.Goals as goal

pub loop-i-preserved : goal.loop-i-preserved
loop-i-preserved c =
    let g : length c.args.shares.now ≡ 8 = c.told-shares in (omega (arith, sum-on c.args.work.now c.args.v.objects c.args.f c.args.k c.args.shares.now c.args.n c.loop-i.i (omega arith) c.loop-i-test.true, c.part_of-t.ensures.0, c.loop-i.invariant.0), omega (arith, c.part_of-t.ensures.1))

pub returns : goal.returns
returns c =
    (omega (arith, sum_past c.args.work.now c.args.v.objects c.args.f c.args.k c.args.shares.now c.args.n c.loop-i.i c.loop-i-test.false, c.loop-i.invariant.0), omega arith)
