-- The bytes that the writers leave.
use Rattle.std.specs.Prelude.{Bool, cond, List, [], ◌∷◌, ◌++◌, ℕ, zero, suc, ◌+◌, ◌*◌, ◌/◌, ◌%◌, ◌<◌, set}
use Rattle.tables.specs.declared.Expr as Tables
use Rattle.tables.specs.declared.Operands.{Operands}
use Rattle.tables.specs.Numbers.{byte_values, half_values, word_values, num_tag, null_tag, var_tag, path_tag, no_place}
use Rattle.tables.specs.Layout.{most_names}
use Rattle.tables.specs.Decode.{atom_place, row_place, method_place, class_place, places_place, field_count_at}

-- the bytes bs from i on
unfoldable pub put_bytes : List ℕ → ℕ → List ℕ → List ℕ
put_bytes w i [] = w
put_bytes w i (b ∷ bs) = put_bytes (set w i b) (suc i) bs

-- two bytes and four, low byte first
abbrev pub half_bytes : ℕ → List ℕ
half_bytes v = v % 256 ∷ v / 256 ∷ []

abbrev pub word_bytes : ℕ → List ℕ
word_bytes v = v % 256 ∷ v / 256 % 256 ∷ v / 65536 % 256 ∷ v / 16777216 % 256 ∷ []

-- ATOMS

unfoldable pub tag_of : Tables.Expr → ℕ
tag_of (Tables.Expr.Num n) = num_tag
tag_of Tables.Expr.Null = null_tag
tag_of (Tables.Expr.Var x) = var_tag
tag_of (Tables.Expr.Path x f) = path_tag

-- the four bytes of a side, as a number
unfoldable pub word_of : Tables.Expr → ℕ
word_of (Tables.Expr.Num n) = n
word_of Tables.Expr.Null = 0
word_of (Tables.Expr.Var x) = x
word_of (Tables.Expr.Path x f) = x + f * byte_values

unfoldable pub bytes_of_atom : ℕ → Tables.Expr → Tables.Expr → List ℕ
bytes_of_atom k a b = (k ∷ tag_of a ∷ tag_of b ∷ 0 ∷ []) ++ (word_bytes (word_of a) ++ word_bytes (word_of b))

unfoldable pub put_atom : List ℕ → ℕ → ℕ → Tables.Expr → Tables.Expr → List ℕ
put_atom w i k a b = put_bytes w (atom_place i) (bytes_of_atom k a b)

-- STATEMENT ROWS: the target is 0 until it is known

unfoldable pub bytes_of_row : Operands → List ℕ
bytes_of_row r =
    (r.kind ∷ r.x ∷ r.y ∷ r.z ∷ [])
    ++ ((r.member ∷ r.atoms ∷ half_bytes r.first) ++ (r.line % 256 ∷ r.line / 256 ∷ 0 ∷ 0 ∷ []))

unfoldable pub put_row : List ℕ → ℕ → Operands → List ℕ
put_row w i r = put_bytes w (row_place i) (bytes_of_row r)

-- METHODS

-- without requires and ensures
unfoldable pub bytes_of_method : ℕ → List ℕ
bytes_of_method first = (0 ∷ 0 ∷ 0 ∷ 0 ∷ []) ++ (0 ∷ 0 ∷ half_bytes first)

unfoldable pub put_method : List ℕ → ℕ → ℕ → List ℕ
put_method w m first = put_bytes w (method_place m) (bytes_of_method first)

-- n atoms from a on
unfoldable pub put_requires : List ℕ → ℕ → ℕ → ℕ → List ℕ
put_requires w m a n = put_bytes w (method_place m) (half_bytes a ++ (n ∷ []))

unfoldable pub put_ensures : List ℕ → ℕ → ℕ → ℕ → List ℕ
put_ensures w m a n = put_bytes w (method_place m + 3) ((n ∷ []) ++ half_bytes a)

-- CLASSES

-- n names that have no place
unfoldable pub blank : ℕ → List ℕ
blank zero = []
blank (suc n) = no_place ∷ blank n

-- without fields: no name has a place
unfoldable pub put_class : List ℕ → ℕ → List ℕ
put_class w c = put_bytes (put_bytes w (class_place c) (0 ∷ [])) (places_place c) (blank most_names)

-- its count of fields is j so far
unfoldable pub put_field_at : List ℕ → ℕ → ℕ → ℕ → Bool → List ℕ
put_field_at w c j name int =
    put_bytes (put_bytes (put_bytes w (class_place c) ((j + 1) ∷ [])) (class_place c + 1 + j * 2) (name ∷ cond int 1 0 ∷ []))
    (places_place c + name) (j ∷ [])

abbrev pub put_field : List ℕ → ℕ → ℕ → Bool → List ℕ
put_field w c name int = put_field_at w c (field_count_at w c) name int

-- THE HEADER
unfoldable pub header_bytes : ℕ → ℕ → ℕ → ℕ → ℕ → List ℕ
header_bytes rows atoms classes methods main =
    (half_bytes rows ++ half_bytes atoms) ++ (classes ∷ methods ∷ half_bytes main)

unfoldable pub put_header : List ℕ → ℕ → ℕ → ℕ → ℕ → ℕ → List ℕ
put_header w rows atoms classes methods main = put_bytes w 0 (header_bytes rows atoms classes methods main)

-- WHAT THE WRITERS ASK

-- the operands of a row fit their bytes
pub record RowBytes (r : Operands) : Type 0 where
  pub kind : r.kind < byte_values
  pub x : r.x < byte_values
  pub y : r.y < byte_values
  pub z : r.z < byte_values
  pub member : r.member < byte_values
  pub atoms : r.atoms < byte_values
  pub first : r.first < half_values
  pub line : r.line < half_values

-- a side fits its bytes
unfoldable pub SideBytes : Tables.Expr → Type 0
SideBytes (Tables.Expr.Num n) = n < word_values
SideBytes Tables.Expr.Null = Unit {0}
SideBytes (Tables.Expr.Var x) = x < byte_values
SideBytes (Tables.Expr.Path x f) = (x < byte_values) × (f < byte_values)
