use Rattle.run_heap.proofs.Halves.{halves-most}
use Rattle.run_footprint.specs.Footprints.{cell_in}
use Rattle.run_footprint.proofs.Shares.{share-plain}
use Rattle.run_footprint.proofs.Sieves.{untouched-taken, took_more, sieve-set, sieve-more, sieve-took}
use native.Mathlib.Omega.{arith}
use Rattle.run_footprint.proofs.put_share.Goals as goal

pub returns-then-b-eq0 : goal.returns-then-b-eq0
returns-then-b-eq0 c =
    let p = share-plain c.args.s (omega (arith, c.requires.0.1, halves-most c.args.work.now c.args.v.holder (cell_in c.args.s))) in let z = untouched-taken c.args.work.now c.args.v.objects c.args.f _ _ (c.requires.1.1.clear _ c.if-b-eq0.true) in
    let a = took_more c.args.shares.now c.args.n c.args.s c.requires.1.0.0 c.requires.1.0.1 c.args.work.now c.args.v c.args.f (omega (arith, z, c.requires.0.1)) in (a, sieve-took _ _ _ _ _ _ _ _ a.took (sieve-set _ _ _ p c.requires.1.1))

pub returns : goal.returns
returns c =
    let p = share-plain c.args.s (omega (arith, c.requires.0.1, halves-most c.args.work.now c.args.v.holder (cell_in c.args.s))) in
    (c.put_seen.ensures, sieve-took _ _ _ _ _ _ _ _ c.put_seen.ensures.took (sieve-more _ _ _ _ p c.requires.1.1 c.requires.1.1.size c.if-b-eq0.false (λ i e. e)))
