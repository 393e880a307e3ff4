use Rattle.std.proofs.Common.{sym, ap, ◌∙◌, arith}
use Rattle.check_equality.proofs.Labels.{header-set}
use Rattle.check_scans.proofs.Dropping.{mapped-more}
use Rattle.check_scans.proofs.sides.map_sides.Goals as goal

pub loop-i-preserved : goal.loop-i-preserved
loop-i-preserved g c = (
  header-set _ _ _ c.loop-i.invariant.0 (omega arith),
  λ f T M.
      let R = c.loop-i.invariant.1 f T M in
      let e = R.rest c.loop-i.i (omega arith) in
      mapped-more f _ c.loop-i.i _ _ (omega arith) (omega arith) R (T c.loop-i.i _ (omega arith) (omega arith) (rw e at c.map.ensures) ∙ ap f (sym e)),
)
