use mathlib.Core.Path.{refl, sym, ◌∙◌}
use mathlib.Core.Logic.{inl, inr}
use Rattle.run_calls.proofs.Calling.{requires-atoms, requires-takes}
use Rattle.run_footprint.proofs.Taking.{took-shares, took-lacking, count-shares}
use Rattle.run_heap.proofs.Reading.{passed-on}
use native.Mathlib.Omega.{arith}
use Rattle.run_calls.proofs.admit.Goals as goal

pub footprint-requires : goal.footprint-requires
footprint-requires c =
    let r = requires-atoms _ _ _ c.requires c.requires_first-first.ensures.0 c.requires_count-n.ensures.0 in ((c.requires.readable, r.0), r.1)

pub enter-requires : goal.enter-requires
enter-requires c =
    let e = sym (requires-takes _ _ _ c.requires c.requires_first-first.ensures.0 c.requires_count-n.ensures.0) ∙ took-shares _ _ _ c.in_ok-k.was c.footprint.ensures.took in
    record {
      view = refl;
      readable = c.requires.readable;
      method_fits = omega (arith, c.requires.exists, c.requires.readable.tables.methods);
      more = c.requires.more;
      numbers = c.requires.numbers;
      size = c.footprint.ensures.size;
      count = count-shares _ _ _ c.in_ok-k.was c.footprint.ensures.count;
      fit = c.requires.fit _ e;
    }

pub returns : goal.returns
returns c =
    inl (_, sym (requires-takes _ _ _ c.requires c.requires_first-first.ensures.0 c.requires_count-n.ensures.0) ∙ took-shares _ _ _ c.in_ok-k.was c.footprint.ensures.took, c.enter.ensures)

pub returns-in_err-k : goal.returns-in_err-k
returns-in_err-k c =
    inr (_, sym (requires-takes _ _ _ c.requires c.requires_first-first.ensures.0 c.requires_count-n.ensures.0) ∙ took-lacking _ _ _ c.in_err-k.was c.footprint.ensures.took, passed-on _ _ c.from_residual.ensures.1, refl)
