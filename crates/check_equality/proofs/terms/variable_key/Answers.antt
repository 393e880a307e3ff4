use mathlib.Core.Path.{◌∙◌}
use native.Mathlib.Omega.{arith}
use Rattle.check_equality.proofs.Keys.{of-variable}
use Rattle.check_equality.proofs.terms.variable_key.Goals as goal

pub returns : goal.returns
returns c = (of-variable _ (omega arith) ∙ rw c.from.ensures, c.from.ensures, omega arith)
