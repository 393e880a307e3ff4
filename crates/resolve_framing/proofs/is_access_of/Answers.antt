use mathlib.Core.Path.{sym, ◌∙◌}
use Rattle.resolve_framing.proofs.is_access_of.Goals as goal

pub returns-then-not-is_access : goal.returns-then-not-is_access
returns-then-not-is_access c = rw (sym c.is_access.ensures ∙ c.if-not-is_access.true)

pub returns : goal.returns
returns c = rw (sym c.is_access.ensures ∙ c.if-not-is_access.false) c.is_of.ensures
