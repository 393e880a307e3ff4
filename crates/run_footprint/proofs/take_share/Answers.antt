use mathlib.Core.List.{[]}
use mathlib.Core.Path.{◌∙◌}
use Rattle.run_heap.proofs.Reading.{answered-ok, answered-err, spot-small, passed-on}
use Rattle.run_footprint.proofs.Taking.{own-fits, own_at, own_held, own-lacking}
use Rattle.run_footprint.proofs.Sieves.{nothing-more}
use native.Mathlib.Omega.{arith}
use Rattle.run_footprint.proofs.take_share.Goals as goal

pub locate-requires : goal.locate-requires
locate-requires c =
    let o = own-fits _ c.args.v _ _ _ _ [] (c.requires.0.0.tables.atom_fits c.args.a c.requires.0.1.0) c.requires.0.1.1 c.atom_halves-halves.ensures.0 c.atom_variable-x.ensures.0 c.atom_field-f.ensures.0 in ((c.requires.0.0, o.0), o.1)

pub overflow_mul-k : goal.overflow_mul-k
overflow_mul-k c =
    let l = spot-small _ _ _ c.requires.0.0 (answered-ok _ _ c.in_ok-k.was c.locate.ensures) in omega arith

pub overflow_add-k : goal.overflow_add-k
overflow_add-k c =
    let l = spot-small _ _ _ c.requires.0.0 (answered-ok _ _ c.in_ok-k.was c.locate.ensures) in omega (arith, c.atom_halves-halves.ensures.1)

pub put_share-requires : goal.put_share-requires
put_share-requires c =
    let e = answered-ok _ _ c.in_ok-k.was c.locate.ensures in let l = spot-small _ _ _ c.requires.0.0 e in
    let o = own-fits _ c.args.v _ _ _ _ [] (c.requires.0.0.tables.atom_fits c.args.a c.requires.0.1.0) c.requires.0.1.1 c.atom_halves-halves.ensures.0 c.atom_variable-x.ensures.0 c.atom_field-f.ensures.0 in (
      (((c.requires.0.0, o.1.1), omega arith), own_held _ c.args.v _ _ _ _ [] (c.requires.0.0.tables.atom_fits c.args.a c.requires.0.1.0) c.requires.0.1.1 c.atom_halves-halves.ensures.0 c.atom_variable-x.ensures.0 c.atom_field-f.ensures.0 _ e),
      c.requires.1,
    )

pub returns : goal.returns
returns c = (
  record {
    took = c.put_share.ensures.0.took ∙ own_at _ c.args.v _ _ _ _ _ (c.requires.0.0.tables.atom_fits c.args.a c.requires.0.1.0)
        c.requires.0.1.1 c.atom_halves-halves.ensures.0 c.atom_variable-x.ensures.0 c.atom_field-f.ensures.0 _
        (answered-ok _ _ c.in_ok-k.was c.locate.ensures);
    count = c.put_share.ensures.0.count;
    size = c.put_share.ensures.0.size;
  },
  c.put_share.ensures.1,
)

pub returns-in_err-k : goal.returns-in_err-k
returns-in_err-k c =
    nothing-more _ _ _ _ _ (passed-on _ _ c.from_residual.ensures.1)
    (own-lacking _ c.args.v _ _ _ _ _ (c.requires.0.0.tables.atom_fits c.args.a c.requires.0.1.0) c.requires.0.1.1 c.atom_halves-halves.ensures.0
    c.atom_variable-x.ensures.0 c.atom_field-f.ensures.0 _ (answered-err _ _ c.in_err-k.was c.locate.ensures))
    c.requires.1
