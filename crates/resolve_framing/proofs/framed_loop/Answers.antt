use mathlib.Core.Path.{sym, ◌∙◌}
use Rattle.resolve_framing.proofs.Framing.{last-not, last_on}
use Rattle.resolve_framing.proofs.framed_loop.Goals as goal

pub returns-then-not-framed : goal.returns-then-not-framed
returns-then-not-framed c = sym (last-not _ _ _ _ (sym c.framed.ensures ∙ c.if-not-framed.true))

pub returns : goal.returns
returns c = c.framed_atom.ensures ∙ sym (last_on _ _ _ _ (sym c.framed.ensures ∙ c.if-not-framed.false))
