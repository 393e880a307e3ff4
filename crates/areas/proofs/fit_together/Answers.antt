use native.Mathlib.Omega.{arith}
use Rattle.areas.proofs.Shares.{left-none, left-more, zero-fails, more-fails, all_fit}
use Rattle.areas.proofs.fit_together.Goals as goal

pub loop-k-init : goal.loop-k-init
loop-k-init c = left-none _

pub returns-then-k-eq0 : goal.returns-then-k-eq0
returns-then-k-eq0 c = zero-fails _ _ c.loop-k-test.true c.if-k-eq0.true

pub returns-then-k-left : goal.returns-then-k-left
returns-then-k-left c = more-fails _ _ _ c.loop-k-test.true c.loop-k.invariant c.if-k-left.true

pub loop-k-preserved : goal.loop-k-preserved
loop-k-preserved c = left-more _ _ _ c.loop-k-test.true c.loop-k.invariant c.if-k-left.false c.if-k-eq0.false

pub returns : goal.returns
returns c = all_fit _ _ _ (omega arith) c.loop-k.invariant
