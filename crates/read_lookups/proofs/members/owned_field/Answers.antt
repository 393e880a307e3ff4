use mathlib.Core.Path.{sym, ◌∙◌}
use native.Mathlib.Omega.{arith}
use Rattle.read_lookups.proofs.LookUps.{field-owned, field-index}
use Rattle.read_lookups.proofs.members.owned_field.Goals as goal

pub returns-then-is_field_of : goal.returns-then-is_field_of
returns-then-is_field_of c =
    field-owned _ _ _ _ _ (c.class_number-k.ensures.0 ∙ rw c.name_in.ensures) (omega (arith, c.class_number-k.ensures.1, c.requires.0.classes)) _ _ c.requires.1 (sym c.is_field_of.ensures ∙ c.if-is_field_of.true)

pub returns : goal.returns
returns c =
    c.find.ensures.0 ∙ field-index _ _ _ _ _ (c.class_number-k.ensures.0 ∙ rw c.name_in.ensures) (omega (arith, c.class_number-k.ensures.1, c.requires.0.classes)) _
