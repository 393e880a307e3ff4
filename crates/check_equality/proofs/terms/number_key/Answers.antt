use mathlib.Core.Path.{◌∙◌}
use Rattle.check_equality.proofs.Keys.{of_number}
use Rattle.check_equality.proofs.terms.number_key.Goals as goal

pub returns : goal.returns
returns c = of_number _ ∙ rw c.from.ensures
