use mathlib.Core.Path.{sym, ◌∙◌}
use Rattle.run_heap.proofs.Reading.{answered-ok, answered-err, passed-on}
use Rattle.run_footprint.specs.Footprints.{took_is, count_of}
use Rattle.run_footprint.proofs.Taking.{access-fits, chain-takes, chain-null, chain-walked, chain-stops}
use Rattle.run_footprint.proofs.Sieves.{nothing-more}
use native.Mathlib.Omega.{arith}
use Rattle.run_footprint.proofs.chains.take_chain.Goals as goal

pub variable-o-requires : goal.variable-o-requires
variable-o-requires c =
    let g = access-fits _ _ (c.requires.0.0.tables.atom_fits c.args.a c.requires.0.1.0) (omega (arith, c.requires.0.1.1)) in (omega (arith, c.requires.0.0.base, c.requires.0.0.tables.size), omega (arith, c.atom_variable-x.ensures.0, g.0))

pub returns-then-o-eq0 : goal.returns-then-o-eq0
unfolding took_is count_of
returns-then-o-eq0 c =
    (record { took = sym (chain-takes _ c.args.v c.args.a _ _ _ _ (c.requires.0.0.tables.atom_fits c.args.a c.requires.0.1.0) c.requires.0.1.1 c.atom_variable-x.ensures.0 c.atom_field-f.ensures.0 c.variable-o.ensures ∙ chain-null _ _ _ _ _ c.if-o-eq0.true); count = omega arith; size = c.requires.1.0.1 }, c.requires.1.1)

pub overflow_add-s : goal.overflow_add-s
overflow_add-s c =
    omega (arith, c.atom_field-f.ensures.1)

pub overflow_mul-s-2 : goal.overflow_mul-s-2
overflow_mul-s-2 c =
    omega (arith, c.atom_field-f.ensures.1)

pub overflow_add-s-2 : goal.overflow_add-s-2
overflow_add-s-2 c =
    omega (arith, c.atom_field-f.ensures.1)

pub walk_after-requires : goal.walk_after-requires
walk_after-requires c =
    let g = access-fits _ _ (c.requires.0.0.tables.atom_fits c.args.a c.requires.0.1.0) (omega (arith, c.requires.0.1.1)) in ((c.requires.0.0, omega (arith, c.atom_field-f.ensures.0, g.1)), c.requires.1)

pub returns : goal.returns
returns c = (
  record {
    took = c.put_chain.ensures.0.took ∙ sym (chain-takes _ c.args.v c.args.a _ _ _ _ (c.requires.0.0.tables.atom_fits c.args.a c.requires.0.1.0) c.requires.0.1.1 c.atom_variable-x.ensures.0 c.atom_field-f.ensures.0 c.variable-o.ensures
        ∙ chain-walked _ _ _ _ _ _ c.if-o-eq0.false (answered-ok _ _ c.in_ok-last.was c.walk_after.ensures));
    count = c.put_chain.ensures.0.count;
    size = c.put_chain.ensures.0.size;
  },
  c.put_chain.ensures.1,
)

pub returns-in_err-last : goal.returns-in_err-last
returns-in_err-last c =
    nothing-more _ _ _ _ _ (passed-on _ _ c.from_residual.ensures.1)
    (chain-takes _ c.args.v c.args.a _ _ _ _ (c.requires.0.0.tables.atom_fits c.args.a c.requires.0.1.0) c.requires.0.1.1 c.atom_variable-x.ensures.0 c.atom_field-f.ensures.0 c.variable-o.ensures
    ∙ chain-stops _ _ _ _ _ _ c.if-o-eq0.false (answered-err _ _ c.in_err-last.was c.walk_after.ensures))
    c.requires.1
