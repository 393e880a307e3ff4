use mathlib.Core.Path.{sym, ◌∙◌}
use native.Mathlib.Omega.{arith}
use Rattle.resolve_framing.proofs.Framing.{found_none, found_here, found-on}
use Rattle.resolve_framing.proofs.has_access.Goals as goal

pub returns-then-is_access_of : goal.returns-then-is_access_of
returns-then-is_access_of c = sym (c.loop-i.invariant ∙ found_here _ _ _ _ _ _ (omega arith) (sym c.is_access_of.ensures ∙ c.if-is_access_of.true))

pub loop-i-preserved : goal.loop-i-preserved
loop-i-preserved c = c.loop-i.invariant ∙ found-on _ _ _ _ _ _ (omega arith) (sym c.is_access_of.ensures ∙ c.if-is_access_of.false)

pub returns : goal.returns
returns c = sym (c.loop-i.invariant ∙ found_none _ _ _ _ _ (omega arith))
