use mathlib.Core.Path.{refl, sym, ◌∙◌}
use borrow.Author.Tests.{eq-eqb, ne_eqb}
use Rattle.run_footprint.specs.Footprints.{field_in, chain_part}
use native.Mathlib.Omega.{arith}
use Rattle.run_footprint.proofs.chains.chain_part.Goals as goal

pub returns-then-field_of-f : goal.returns-then-field_of-f
unfolding chain_part
returns-then-field_of-f c =
    (rw (ne_eqb (field_in c.args.s) c.args.f (λ e. c.if-field_of-f.true (c.field_of.ensures ∙ e))), omega arith)

pub returns-then-passes : goal.returns-then-passes
unfolding chain_part
returns-then-passes c =
    let e = sym c.field_of.ensures ∙ c.if-field_of-f.false in (rw (e, eq-eqb c.args.f c.args.f refl, ← c.start_of.ensures, ← c.passes.ensures, c.if-passes.true), omega arith)

pub returns : goal.returns
unfolding chain_part
returns c =
    let e = sym c.field_of.ensures ∙ c.if-field_of-f.false in (rw (e, eq-eqb c.args.f c.args.f refl, ← c.start_of.ensures, ← c.passes.ensures, c.if-passes.false), omega arith)
