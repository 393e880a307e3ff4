use lib.ListN.{length-replicate}
use native.Mathlib.Omega.{arith}
use mathlib.Core.Path.{◌≡◌, sym, ◌∙◌}
use Rattle.run_footprint.specs.Footprints.{took_is, count_of}
use Prim.Native.Nat.{ℕ, ◌-◌, ◌+◌}
use Rattle.run_footprint.proofs.Taking.{foot-next, foot-stop, foot-end, took-shares, took-lacking, count-shares}
use Rattle.run_footprint.proofs.Sieves.{sieve-none, sieve-shares, nothing-taken}
use Rattle.run_heap.proofs.Reading.{passed-on}
use Rattle.run_footprint.proofs.footprint.Goals as goal

pub loop-i-init : goal.loop-i-init
loop-i-init c =
    (omega arith, c.told-shares, let e : c.args.first + 0 ≡ c.args.first = omega arith in let f : c.args.n - 0 ≡ c.args.n = omega arith in rw (e, f), sieve-none c.args.shares.now _ (length-replicate {A = ℕ} 64 0))

pub take_atom-requires : goal.take_atom-requires
take_atom-requires c =
    ((c.requires.0.0, omega (arith, c.requires.0.1)), ((omega arith, c.loop-i.invariant.1), c.loop-i.invariant.3))

pub returns-in_err-count : goal.returns-in_err-count
returns-in_err-count c =
    nothing-taken _ _ _ _ (passed-on _ _ c.from_residual.ensures.1)
    (sym c.loop-i.invariant.2 ∙ foot-stop _ _ _ _ _ _ _ c.loop-i-test.true (took-lacking _ _ _ c.in_err-count.was c.take_atom.ensures.0.took))
    c.take_atom.ensures.0.size

pub loop-i-preserved : goal.loop-i-preserved
loop-i-preserved c =
    (omega (arith, count-shares _ _ _ c.in_ok-count.was c.take_atom.ensures.0.count), c.take_atom.ensures.0.size, foot-next _ _ _ _ _ _ _ c.loop-i-test.true (took-shares _ _ _ c.in_ok-count.was c.take_atom.ensures.0.took) ∙ c.loop-i.invariant.2, sieve-shares _ _ _ _ c.in_ok-count.was c.take_atom.ensures.1)

pub returns : goal.returns
unfolding took_is count_of
returns c = record { took = sym (foot-end _ _ _ _ _ _ c.loop-i-test.false) ∙ c.loop-i.invariant.2; count = omega arith; size = c.loop-i.invariant.1 }
