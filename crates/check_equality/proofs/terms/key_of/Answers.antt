use Rattle.check_equality.proofs.Keys.{of-null}
use Rattle.check_equality.specs.Keys.{meaning}
use mathlib.Core.Path.{sym, ap, ◌∙◌}
use Rattle.check_equality.proofs.terms.key_of.Goals as goal

pub returns-in-Num : goal.returns-in-Num
unfolding meaning
returns-in-Num c = c.number_key.ensures ∙ ap meaning (sym c.in-Num.is)

pub returns-in-Null : goal.returns-in-Null
unfolding meaning
returns-in-Null c = of-null ∙ ap meaning (sym c.in-Null.is)

pub returns-in-Var : goal.returns-in-Var
unfolding meaning
returns-in-Var c = c.variable_key.ensures.0 ∙ ap meaning (sym c.in-Var.is)

pub returns-in-Path : goal.returns-in-Path
unfolding meaning
returns-in-Path c = c.path_key.ensures.0 ∙ ap meaning (sym c.in-Path.is)
