use Rattle.read_lookups.proofs.LookUps.{name-index}
use mathlib.Core.Path.{◌∙◌}
use Rattle.read_lookups.proofs.members.field_number.Goals as goal

pub returns : goal.returns
returns c = (c.find.ensures.0 ∙ name-index _ _ _ _, c.find.ensures.1)
