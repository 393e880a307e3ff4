use Rattle.read_lookups.proofs.LookUps.{own-found, own-none, own-result, own-other}
use Rattle.rules.specs.Base.{bytes}
use mathlib.Core.Path.{sym, ◌∙◌}
use native.Mathlib.Omega.{arith}
use Rattle.read_lookups.proofs.own_variable.Goals as goal

pub returns-then-i-n : goal.returns-then-i-n
returns-then-i-n c = own-found _ _ _ _ _ _ _ c.find-i.ensures.0 c.if-i-n.true c.requires

pub returns-then-not-res : goal.returns-then-not-res
returns-then-not-res c = own-none _ _ _ _ _ _ (omega (arith, c.find-i.ensures.0, c.if-i-n.false)) (c.if-not-res.true)

pub returns-then-same : goal.returns-then-same
unfolding bytes
returns-then-same c = own-result _ _ _ _ _ _ (omega (arith, c.find-i.ensures.0, c.if-i-n.false)) (c.if-not-res.false) (sym c.same.ensures ∙ c.if-same.true)

pub returns : goal.returns
unfolding bytes
returns c = own-other _ _ _ _ _ _ (omega (arith, c.find-i.ensures.0, c.if-i-n.false)) (c.if-not-res.false) (sym c.same.ensures ∙ c.if-same.false)
