use mathlib.Core.Path.{refl}
use Rattle.run_heap.specs.Views.{stop_of}
use Rattle.run_heap.specs.declared.Fault.{Fault}
use Rattle.run_footprint.proofs.Taking.{new-lacking}
use Rattle.run_footprint.proofs.Sieves.{took_more, nothing-taken}
use native.Mathlib.Omega.{arith}
use Rattle.run_footprint.proofs.put_seen.Goals as goal

pub halves_held-requires : goal.halves_held-requires
halves_held-requires c =
    c.requires.0.1

pub returns-then-halves_held-t : goal.returns-then-halves_held-t
unfolding stop_of
returns-then-halves_held-t c =
    nothing-taken _ Fault.Permission _ _ refl (new-lacking _ _ _ _ _ _ (omega (arith, c.if-halves_held-t.true, c.halves_held.ensures, c.taken.ensures.0))) c.told-shares

pub returns : goal.returns
returns c =
    took_more c.args.shares.now c.args.n c.args.s c.requires.1 c.told-shares c.args.work.now c.args.v c.args.f (omega (arith, c.if-halves_held-t.false, c.halves_held.ensures, c.taken.ensures.0))
