-- Fields by their lengths.
use Rattle.std.specs.Prelude.{Bool, cond, ◌||◌, Option, Some, None, List, ℕ, ◌+◌, leb, length, get_or, take, drop}
use Rattle.rules.specs.Base.{Name}
use Rattle.rules.specs.Text.{up_to}
use Rattle.read_bytes.specs.declared.Set.TheVariants.{FieldEnd}
use Rattle.read_bytes.specs.Sets.{in_set}

-- the bytes of a line's first field; that field
unfoldable pub field_length : Name → ℕ
field_length l = up_to (in_set FieldEnd) l

unfoldable pub first_field : Name → Name
first_field l = take (field_length l) l

-- a field ends at e: at the end, or at tab or LF
abbrev pub ends_field : Name → ℕ → Bool
ends_field l e = leb (length l) e || in_set FieldEnd (get_or l e 0)

-- the end of the field that starts at a place, if that field passes a test
abbrev pub field_end : (Name → Bool) → List ℕ → ℕ → Option ℕ
field_end p l at = cond (p (first_field (drop at l))) (Some (at + field_length (drop at l))) None

-- Everything above computes where this unfolds.
unfoldable pub opened : Unit {0}
unfolding field_length first_field
opened = tt
