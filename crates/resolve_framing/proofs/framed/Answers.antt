use mathlib.Core.Path.{sym, ◌∙◌}
use native.Mathlib.Omega.{arith}
use Rattle.resolve_framing.proofs.Framing.{passed_none, passed-all, passed-not, passed_on}
use Rattle.resolve_framing.proofs.framed.Goals as goal

pub loop-i-init : goal.loop-i-init
loop-i-init c = passed_none _ _ _

pub returns-then-not-framed_atom : goal.returns-then-not-framed_atom
returns-then-not-framed_atom c = sym (passed-not _ _ _ _ c.loop-i-test.true c.loop-i.invariant (sym c.framed_atom.ensures ∙ c.if-not-framed_atom.true))

pub loop-i-preserved : goal.loop-i-preserved
loop-i-preserved c = passed_on _ _ _ _ c.loop-i-test.true c.loop-i.invariant (sym c.framed_atom.ensures ∙ c.if-not-framed_atom.false)

pub returns : goal.returns
returns c = sym (passed-all _ _ _ _ (omega arith) c.loop-i.invariant)
