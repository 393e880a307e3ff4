-- What the functions of this crate answer and write.
use Rattle.std.specs.Prelude.{List, ◌≡◌, ℕ, ◌+◌, ◌/◌, ◌%◌, ◌≤◌, ◌<◌, length, set}
use Rattle.rules.specs.Syntax as Syntax
use Rattle.rules.specs.Syntax.{num, null, var, path}
use Rattle.tables.specs.declared.Expr.{Expr}
use Rattle.tables.specs.declared.Layout as Declared
use Rattle.tables.specs.Decode.{byte_at}
use Rattle.tables.specs.Layout.{rows_at, methods_at, classes_at, places_at, atoms_at, names_at, lines_at, values_at, holders_at, objects_at, frames_at, row_bytes, atom_bytes, method_bytes, class_bytes, object_bytes, frame_bytes, most_names}

-- the expression that an answer is
unfoldable pub meaning : Expr → Syntax.Expr ℕ
meaning (Expr.Num n) = num n
meaning Expr.Null = null
meaning (Expr.Var x) = var x
meaning (Expr.Path x f) = path x f

abbrev pub put_byte : List ℕ → ℕ → ℕ → List ℕ
put_byte w i v = set w i v

-- low byte first
unfoldable pub put_half : List ℕ → ℕ → ℕ → List ℕ
put_half w i v = set (set w i (v % 256)) (i + 1) (v / 256)

unfoldable pub put_word : List ℕ → ℕ → ℕ → List ℕ
put_word w i v =
    set (set (set (set w i (v % 256)) (i + 1) (v / 256 % 256)) (i + 2) (v / 65536 % 256)) (i + 3) (v / 16777216 % 256)

-- the constants of the code are those of `Layout`
abbrev pub offsets : Declared.Layout
offsets =
    record {
      rows = rows_at;
      methods = methods_at;
      classes = classes_at;
      places = places_at;
      atoms = atoms_at;
      names = names_at;
      lines = lines_at;
      values = values_at;
      holders = holders_at;
      objects = objects_at;
      frames = frames_at;
      row_bytes = row_bytes;
      atom_bytes = atom_bytes;
      method_bytes = method_bytes;
      class_bytes = class_bytes;
      object_bytes = object_bytes;
      frame_bytes = frame_bytes;
      field_names = most_names;
    }

-- the bytes from a up to b are the same
abbrev pub Kept : ℕ → ℕ → List ℕ → List ℕ → Type 0
Kept a b w w' = (i : ℕ) → a ≤ i → i < b → byte_at w' i ≡ byte_at w i

-- an area of the same length with the same tables
pub record SameTables (w w' : List ℕ) : Type 0 where
  pub size : length w' ≡ length w
  pub bytes : Kept 0 names_at w w'
