use native.Mathlib.Omega.{arith}
use mathlib.Core.Path.{sym, ◌∙◌}
use Rattle.run_returns.proofs.Returning.{last-saved, end-done, end-stops, end-atoms, end-takes}
use Rattle.run_steps.proofs.Doing.{does-answer, size, view-readable}
use Rattle.run_heap.proofs.Reading.{passed-on}
use Rattle.run_footprint.proofs.Taking.{took-shares, took-lacking, count-shares}
use Rattle.run_returns.proofs.end_step.Goals as goal

pub returns-then-c-eq1 : goal.returns-then-c-eq1
returns-then-c-eq1 c = end-done c.requires c.if-c-eq1.true

pub ensures_first-first-requires : goal.ensures_first-first-requires
ensures_first-first-requires c =
    omega (arith, c.method_of-m.ensures, (last-saved c.requires c.if-c-eq1.false).1, c.requires.represents.tables.methods)

pub ensures_count-n-requires : goal.ensures_count-n-requires
ensures_count-n-requires c =
    omega (arith, c.method_of-m.ensures, (last-saved c.requires c.if-c-eq1.false).1, c.requires.represents.tables.methods)

pub footprint-requires : goal.footprint-requires
footprint-requires c =
    let r = end-atoms c.requires c.if-c-eq1.false _ _ _ c.method_of-m.ensures c.ensures_first-first.ensures.0 c.ensures_count-n.ensures.0 in ((view-readable c.requires c.view_of-v.ensures, r.0), r.1)

pub leave-requires : goal.leave-requires
leave-requires c =
    record {
      ready = c.requires;
      inner = c.if-c-eq1.false;
      size = c.footprint.ensures.size;
      count = count-shares _ _ _ c.in_ok-k.was c.footprint.ensures.count;
      took = sym (end-takes c.requires c.if-c-eq1.false _ _ _ c.method_of-m.ensures c.ensures_first-first.ensures.0 c.ensures_count-n.ensures.0 _ c.view_of-v.ensures) ∙ took-shares _ _ _
          c.in_ok-k.was c.footprint.ensures.took;
    }

pub returns-in_err-k : goal.returns-in_err-k
returns-in_err-k c =
    does-answer (sym (passed-on _ _ c.from_residual.ensures.1))
    (end-stops c.requires c.if-c-eq1.false _ (sym (end-takes c.requires c.if-c-eq1.false _ _ _ c.method_of-m.ensures c.ensures_first-first.ensures.0 c.ensures_count-n.ensures.0 _ c.view_of-v.ensures) ∙ took-lacking _ _ _ c.in_err-k.was c.footprint.ensures.took))
