use Rattle.std.proofs.Common.{◌∙◌, arith, length-set}
use Rattle.check_scans.proofs.Dropping.{dropped-more}
use Rattle.check_scans.proofs.sides.drop_sides.Goals as goal

pub loop-i-preserved : goal.loop-i-preserved
loop-i-preserved g c = (
  length-set c.loop-i.gone c.loop-i.i _ ∙ c.loop-i.invariant.0,
  λ test T D. dropped-more test _ c.loop-i.i _ _ (omega arith) (c.loop-i.invariant.1 test T D) (T c.loop-i.i _ (omega arith) (omega arith) c.passes.ensures),
)
