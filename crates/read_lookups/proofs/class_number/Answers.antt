use Rattle.read_lookups.proofs.LookUps.{class-index}
use mathlib.Core.Path.{◌∙◌}
use Rattle.read_lookups.proofs.class_number.Goals as goal

pub returns : goal.returns
returns c = (c.find.ensures.0 ∙ class-index _ _ _ _, c.find.ensures.1)
