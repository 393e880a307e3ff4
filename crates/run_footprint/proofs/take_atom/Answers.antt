use mathlib.Core.Path.{refl, sym, ap, ◌∙◌}
use Rattle.std.specs.Prelude.{Ok}
use Rattle.run_heap.specs.declared.Fault.{Fault}
use Rattle.run_heap.specs.Views.{stop_of}
use Rattle.run_footprint.specs.Footprints.{took_is, count_of}
use Rattle.run_heap.proofs.Reading.{answered-ok, answered-err, passed-on}
use Rattle.run_footprint.proofs.Taking.{is-share, is-chain, is-compared, take-cmp, test-true, test-false, test-lacking}
use Rattle.run_footprint.proofs.Sieves.{nothing-more}
use native.Mathlib.Omega.{arith}
use Rattle.run_footprint.proofs.take_atom.Goals as goal

pub take_share-requires : goal.take_share-requires
take_share-requires c =
    ((c.requires.0.0, (c.requires.0.1, is-share _ _ _ c.kind_of_atom.ensures (c.requires.0.0.tables.atom_fits c.args.a c.requires.0.1) c.in-Read.is)), c.requires.1)

pub take_chain-requires : goal.take_chain-requires
take_chain-requires c =
    ((c.requires.0.0, (c.requires.0.1, is-chain _ _ _ c.kind_of_atom.ensures (c.requires.0.0.tables.atom_fits c.args.a c.requires.0.1) c.in-Chain.is)), c.requires.1)

pub returns-then-holds : goal.returns-then-holds
unfolding took_is count_of
returns-then-holds c =
    let k = is-compared _ _ _ c.kind_of_atom.ensures (c.requires.0.0.tables.atom_fits c.args.a c.requires.0.1) c.in-Eq.is in
    (record { took = sym (take-cmp _ _ _ _ k ∙ test-true _ _ (answered-ok _ _ (c.in_ok-holds-in-Eq.was ∙ ap Ok c.if-holds.true) c.condition.ensures)); count = omega arith; size = c.requires.1.0.1 }, c.requires.1.1)

pub returns-else-holds : goal.returns-else-holds
unfolding stop_of
returns-else-holds c =
    let k = is-compared _ _ _ c.kind_of_atom.ensures (c.requires.0.0.tables.atom_fits c.args.a c.requires.0.1) c.in-Eq.is in
    nothing-more _ Fault.False _ _ _ refl (take-cmp _ _ _ _ k ∙ test-false _ _ (answered-ok _ _ (c.in_ok-holds-in-Eq.was ∙ ap Ok c.if-holds.false) c.condition.ensures)) c.requires.1

pub returns-in_err-holds-in-Eq : goal.returns-in_err-holds-in-Eq
returns-in_err-holds-in-Eq c =
    let k = is-compared _ _ _ c.kind_of_atom.ensures (c.requires.0.0.tables.atom_fits c.args.a c.requires.0.1) c.in-Eq.is in
    nothing-more _ _ _ _ _ (passed-on _ _ c.from_residual.ensures.1) (take-cmp _ _ _ _ k ∙ test-lacking _ _ _ (answered-err _ _ c.in_err-holds-in-Eq.was c.condition.ensures)) c.requires.1
