use mathlib.Core.Path.{refl, sym, ◌∙◌}
use Rattle.run_heap.specs.Views.{stop_of}
use Rattle.run_heap.specs.declared.Fault.{Fault}
use Rattle.run_footprint.proofs.Taking.{chain-met}
use Rattle.run_footprint.proofs.Sieves.{nothing-more, sieve-all, took-chain}
use native.Mathlib.Omega.{arith}
use Rattle.run_footprint.proofs.chains.put_chain.Goals as goal

pub ends_at-requires : goal.ends_at-requires
ends_at-requires c =
    ((c.requires.0, omega (arith, c.field_of.ensures)), omega (arith, c.requires.1.0.0))

pub returns-then-ends_at : goal.returns-then-ends_at
unfolding stop_of
returns-then-ends_at c =
    nothing-more _ Fault.Permission _ _ _ refl (chain-met _ _ _ _ _ (rw c.field_of.ensures at (sym c.ends_at.ensures ∙ c.if-ends_at.true))) c.requires.1

pub returns : goal.returns
returns c =
    (took-chain c.args.shares.now c.args.n c.args.s c.requires.1.0.0 c.requires.1.0.1 _ _ _ (rw c.field_of.ensures at (sym c.ends_at.ensures ∙ c.if-ends_at.false)), sieve-all _ _ c.fill_seen.ensures)
