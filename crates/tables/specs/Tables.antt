-- What holds of the tables of every text that the reader takes, beside the program that they mean.
use Rattle.std.specs.Prelude.{◌≡◌, Bool, true, false, ◌&&◌, List, [], ◌∷◌, ◌⊎◌, ℕ, zero, suc, ◌+◌, ◌≤◌, ◌<◌, T, leb, length, drop}
use Rattle.rules.specs.Limits.{most_classes, most_fields, most_methods, most_statements, most_branches, most_atoms, work_bytes}
use Rattle.rules.specs.Syntax.{Expr, num, null, var, path, Stmt, Row, simple, return, if, else, join, loop, again, end}
use Rattle.rules.specs.Grammar.{IsStatementNumber, set_kind, let_kind, new_kind, call_kind, if_kind, else_kind, end_kind, loop_kind, again_kind, open_kind, shut_kind}
use Rattle.rules.specs.Machine.{closing, loop_of}
use Rattle.tables.specs.declared.Operands.{Operands}
use Rattle.tables.specs.Numbers.{word_values, read_atom, eq_atom, ne_atom, path_tag, no_place}
use Rattle.tables.specs.Layout.{most_atom_rows, most_names, frame_variables}
use Rattle.tables.specs.Decode.{byte_at, left_at, right_at, atom_kind_at, left_tag_at, kind_at, target_at, operands_at, row_count, atom_count, class_count, method_count, main_first, all_rows, requires_first_at, requires_count_at, ensures_first_at, ensures_count_at, first_row_at, places_place, field_count_at, field_name_at}

-- ATOMS

-- a side: a number of four bytes, a variable of a frame, the number of a name
unfoldable pub SideFits : Expr ℕ → Type 0
SideFits (num n) = n < word_values
SideFits null = Unit {0}
SideFits (var x) = x < frame_variables
SideFits (path x f) = (x < frame_variables) × (f < most_names)

-- an atom of the kind k with the sides a, which has this tag, and b: `acc x f`, `read x f` and `chain x f` are written as a path on the left
pub record AtomFits (k tag : ℕ) (a b : Expr ℕ) : Type 0 where
  pub least : read_atom ≤ k
  pub kind : k ≤ ne_atom
  pub left : SideFits a
  pub right : SideFits b
  pub access : k < eq_atom → tag ≡ path_tag

abbrev pub AtomFitsAt : List ℕ → ℕ → Type 0
AtomFitsAt w i = AtomFits (atom_kind_at w i) (left_tag_at w i) (left_at w i) (right_at w i)

-- k of n atoms, from the atom a on
abbrev pub AtomsFit : ℕ → ℕ → ℕ → Type 0
AtomsFit n a k = (k ≤ most_atoms) × (a + k ≤ n)

-- ROWS

-- how many classes and methods there are
pub record Declared : Type 0 where
  pub classes : ℕ
  pub methods : ℕ

abbrev pub declared_in : List ℕ → Declared
declared_in w = record { classes = class_count w; methods = method_count w }

-- `set`, `open` and `shut` name a field
abbrev pub HasField : ℕ → Type 0
HasField k = (k ≡ set_kind) ⊎ ((k ≡ open_kind) ⊎ (k ≡ shut_kind))

-- operands that a row may have where there are n atoms: what `member` is by the kind, which kinds have one atom, and which has a condition
-- before its atoms
pub record OperandsFit (D : Declared) (n : ℕ) (r : Operands) : Type 0 where
  pub kind : IsStatementNumber r.kind
  pub x : r.x < frame_variables
  pub y : r.y < frame_variables
  pub z : r.z < frame_variables
  pub field : HasField r.kind → r.member < most_names
  pub class : r.kind ≡ new_kind → r.member < D.classes
  pub method : r.kind ≡ call_kind → r.member < D.methods
  pub atoms : AtomsFit n r.first r.atoms
  pub one_atom : (r.kind ≡ let_kind) ⊎ (r.kind ≡ if_kind) → r.atoms ≡ 1
  pub condition : r.kind ≡ loop_kind → 1 ≤ r.first

-- `if`, `else`, `loop` and `again` go to another row
abbrev pub HasTarget : ℕ → Type 0
HasTarget k = (k ≡ if_kind) ⊎ ((k ≡ else_kind) ⊎ ((k ≡ loop_kind) ⊎ (k ≡ again_kind)))

-- the rows that follow a row
pub record TargetFits (w : List ℕ) (i : ℕ) : Type 0 where
  pub target : HasTarget (kind_at w i) → target_at w i < row_count w
  pub after_else : kind_at w i ≡ if_kind → target_at w i ≡ suc (closing (all_rows w) i)
  pub to_join : kind_at w i ≡ else_kind → target_at w i ≡ closing (all_rows w) i
  pub after_again : kind_at w i ≡ loop_kind → target_at w i ≡ suc (closing (all_rows w) i)
  pub to_loop : kind_at w i ≡ again_kind → target_at w i ≡ loop_of (all_rows w) i
  pub next : (kind_at w i ≡ end_kind) ⊎ (suc i < row_count w)

pub record RowFits (w : List ℕ) (i : ℕ) : Type 0 where
  pub operands : OperandsFit (declared_in w) (atom_count w) (operands_at w i)
  pub follows : TargetFits w i

-- METHODS, CLASSES

-- d branches and loops are open, at most `most_branches` at once, up to the block's `end`
unfoldable pub nested_row : Stmt → (ℕ → Bool) → ℕ → Bool
nested_row (simple p) k d = k d
nested_row (return x) k d = k d
nested_row (if n a b) k d = leb (suc d) most_branches && k (suc d)
nested_row else k d = leb 1 d && k d
nested_row (join φ) k zero = false
nested_row (join φ) k (suc d) = k d
nested_row (loop n a b φ) k d = leb (suc d) most_branches && k (suc d)
nested_row again k zero = false
nested_row again k (suc d) = k d
nested_row end k zero = true
nested_row end k (suc d) = false

unfoldable pub nested : List Row → ℕ → Bool
nested [] d = false
nested (r ∷ rs) d = nested_row r.stmt (λ d. nested rs d) d

-- a block starts at row i
abbrev pub BlockFits : List ℕ → ℕ → Type 0
BlockFits w i = (i < row_count w) × T (nested (drop i (all_rows w)) 0)

-- where there are n atoms
pub record FormulasFit (w : List ℕ) (n m : ℕ) : Type 0 where
  pub requires : AtomsFit n (requires_first_at w m) (requires_count_at w m)
  pub ensures : AtomsFit n (ensures_first_at w m) (ensures_count_at w m)

pub record MethodFits (w : List ℕ) (m : ℕ) : Type 0 where
  pub formulas : FormulasFit w (atom_count w) m
  pub block : BlockFits w (first_row_at w m)

-- the place in class c of the field named n, `no_place` where it has none
abbrev pub place_at : List ℕ → ℕ → ℕ → ℕ
place_at w c n = byte_at w (places_place c + n)

pub record ClassFits (w : List ℕ) (c : ℕ) : Type 0 where
  pub count : field_count_at w c ≤ most_fields
  pub names : (j : ℕ) → j < field_count_at w c → field_name_at w c j < most_names
  pub places : (j : ℕ) → j < field_count_at w c → place_at w c (field_name_at w c j) ≡ j
  pub found : (n : ℕ) → n < most_names →
      (place_at w c n ≡ no_place) ⊎ ((place_at w c n < field_count_at w c) × (field_name_at w c (place_at w c n) ≡ n))

-- ALL OF THEM
pub record Tables (w : List ℕ) : Type 0 where
  pub size : length w ≡ work_bytes
  pub rows : row_count w ≤ most_statements
  pub atoms : atom_count w ≤ most_atom_rows
  pub classes : class_count w ≤ most_classes
  pub methods : method_count w ≤ most_methods
  pub row_fits : (i : ℕ) → i < row_count w → RowFits w i
  pub atom_fits : (i : ℕ) → i < atom_count w → AtomFitsAt w i
  pub method_fits : (m : ℕ) → m < method_count w → MethodFits w m
  pub class_fits : (c : ℕ) → c < class_count w → ClassFits w c
  pub main_fits : BlockFits w (main_first w)
