use mathlib.Core.Bool.{Bool, true, false, cond}
use mathlib.Core.Path.{◌≡◌, refl, ◌∙◌}
use mir.Val.{bool_byte}
use Rattle.write_rows.proofs.Puts.{field-stores}
use Rattle.write_rows.proofs.put_class_field.Goals as goal

as-byte : (b : Bool) → bool_byte b ≡ cond b 1 0
as-byte true = refl
as-byte false = refl

pub returns : goal.returns
returns c =
    field-stores _ _ _ _ _ _ c.field_count_at-j.ensures.0 (c.from.ensures ∙ as-byte _) c.put_byte.ensures c.put_byte-2.ensures c.put_byte-3.ensures c.put_byte-4.ensures
