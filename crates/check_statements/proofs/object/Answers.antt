use Rattle.check_statements.proofs.Ruled.{object-yes, object-no}
use mathlib.Core.Path.{sym, ◌∙◌}
use Rattle.check_statements.proofs.object.Goals as goal

pub returns-then-holds : goal.returns-then-holds
returns-then-holds c = object-yes _ _ _ c.variable_key-v.ensures.0 (sym c.if-holds.true ∙ c.holds.ensures)

pub returns : goal.returns
returns c = object-no _ _ _ c.variable_key-v.ensures.0 (sym c.if-holds.false ∙ c.holds.ensures)
