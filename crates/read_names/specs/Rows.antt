-- Rows of names in the work area: where each stands, what it holds, and what is written.
use Rattle.std.specs.Prelude.{◌≡◌, Option, Some, None, Bool, cond, ◌&&◌, ◌||◌, List, ℕ, ◌+◌, ◌-◌, ◌*◌, ◌%◌, ◌≤◌, ◌<◌, eqb, ltb, length, get_or, take, drop}
use Rattle.rules.specs.Base.{Name, eq_name}
use Rattle.tables.specs.Layout.{names_at}
use Rattle.tables.specs.Decode.{byte_at, half_at}
use Rattle.tables.specs.Stores.{put_byte, put_half}
use Rattle.read_bytes.specs.Marks.{byte_values, half_values}
use Rattle.read_names.specs.declared.Span.{Span}
use Rattle.read_names.specs.declared.Row.{Row}

-- WHERE ROWS STAND: 16 of classes, 128 of fields, 64 of methods, and a row for each of the 15 numbers of a block's variables

abbrev pub row_bytes : ℕ
row_bytes = 11

abbrev pub classes_first : ℕ
classes_first = 0

abbrev pub fields_first : ℕ
fields_first = 16

abbrev pub methods_first : ℕ
methods_first = 144

abbrev pub variables_first : ℕ
variables_first = 208

abbrev pub most_rows : ℕ
most_rows = 223

abbrev pub row_place : ℕ → ℕ
row_place i = names_at + i * row_bytes

-- WHAT A ROW HOLDS: the owner's number (a byte); then the places in the text of its name, of the type that it gives (a field's, a
-- variable's, that of a method's result) and of the type that it takes (that of a method's parameter). A place is the start of a name
-- (2 bytes) and its length (a byte). The last byte is the key of the name: names that have different keys are different. A row whose key
-- is not that of its name has no name.

abbrev pub span_bytes : ℕ
span_bytes = 3

abbrev pub name_in : List ℕ → Span → Name
name_in t s = take s.len (drop s.start t)

abbrev pub span_at : List ℕ → ℕ → Span
span_at w p = record { start = half_at w p; len = byte_at w (p + 2) }

abbrev pub no_span : Span
no_span = record { start = 0; len = 0 }

-- of the last two bytes of a name
unfoldable pub key_of : Name → ℕ
key_of x =
    cond (ltb (length x) 2) (get_or x 0 0) ((get_or x (length x - 1) 0 + 10 * get_or x (length x - 2) 0) % 256)

abbrev pub owner_at : List ℕ → ℕ → ℕ
owner_at w i = byte_at w (row_place i)

abbrev pub written_at : List ℕ → ℕ → Span
written_at w i = span_at w (row_place i + 1)

abbrev pub gives_at : List ℕ → ℕ → Span
gives_at w i = span_at w (row_place i + 4)

abbrev pub takes_at : List ℕ → ℕ → Span
takes_at w i = span_at w (row_place i + 7)

abbrev pub key_at : List ℕ → ℕ → ℕ
key_at w i = byte_at w (row_place i + 10)

-- the name, if the key is its key
unfoldable pub name_at : List ℕ → List ℕ → ℕ → Span
name_at t w i = cond (eqb (key_at w i) (key_of (name_in t (written_at w i)))) (written_at w i) no_span

-- a row with its names
pub record Entry : Type 0 where
  pub owner : ℕ
  pub name : Name
  pub gives : Name
  pub takes : Name

unfoldable pub entry_at : List ℕ → List ℕ → ℕ → Entry
entry_at t w i =
    record {
      owner = owner_at w i;
      name = name_in t (name_at t w i);
      gives = name_in t (gives_at w i);
      takes = name_in t (takes_at w i);
    }

-- A SEARCH: the first row of a name, among those of an owner or among all

abbrev pub any_owner : ℕ
any_owner = 255

unfoldable pub is_entry : ℕ → Name → Entry → Bool
is_entry c x e = (eqb c any_owner || eqb e.owner c) && eq_name e.name x

-- of the rows from i on, none from the row `from` up to the row r has the key k
abbrev pub NoKey : List ℕ → ℕ → ℕ → ℕ → ℕ → Type 0
NoKey w i from k r = (j : ℕ) → j < r → from ≤ j → key_at w (i + j) ≡ k → ⊥

-- of n rows from i on, r is the first from the row `from` on that has the key k
pub record KeyFound (w : List ℕ) (i n from k r : ℕ) : Type 0 where
  pub low : from ≤ r
  pub high : r < n
  pub none : NoKey w i from k r
  pub found : key_at w (i + r) ≡ k

-- that row, or there is none
abbrev pub NextKey : List ℕ → ℕ → ℕ → ℕ → ℕ → Option ℕ → Type 0
NextKey w i n from k (Some r) = KeyFound w i n from k r
NextKey w i n from k None = NoKey w i from k n

-- WHAT IS WRITTEN

pub record SpanFits (s : Span) : Type 0 where
  pub start : s.start < half_values
  pub len : s.len < byte_values

pub record RowFits (r : Row) : Type 0 where
  pub owner : r.owner < byte_values
  pub name : SpanFits r.name
  pub gives : SpanFits r.gives
  pub takes : SpanFits r.takes

unfoldable pub put_span : List ℕ → ℕ → Span → List ℕ
put_span w p s = put_byte (put_half w p s.start) (p + 2) s.len

unfoldable pub put_row : List ℕ → List ℕ → ℕ → Row → List ℕ
put_row t w i r =
    let a : List ℕ = put_byte w (row_place i) r.owner in
    let b : List ℕ = put_span a (row_place i + 1) r.name in
    let c : List ℕ = put_span b (row_place i + 4) r.gives in
    let d : List ℕ = put_span c (row_place i + 7) r.takes in
    put_byte d (row_place i + 10) (key_of (name_in t r.name))

-- what a row that is written means
unfoldable pub entry_of : List ℕ → Row → Entry
entry_of t r =
    record { owner = r.owner; name = name_in t r.name; gives = name_in t r.gives; takes = name_in t r.takes }
