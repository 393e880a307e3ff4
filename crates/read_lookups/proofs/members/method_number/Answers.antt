use Rattle.read_lookups.proofs.LookUps.{method-index}
use mathlib.Core.Path.{◌∙◌}
use native.Mathlib.Omega.{arith}
use Rattle.read_lookups.proofs.members.method_number.Goals as goal

pub returns : goal.returns
returns c = (c.find.ensures.0 ∙ method-index _ _ _ _ _ (c.class_number-k.ensures.0 ∙ rw c.name_in.ensures) (omega (arith, c.class_number-k.ensures.1, c.requires.classes)) _, c.find.ensures.1)
