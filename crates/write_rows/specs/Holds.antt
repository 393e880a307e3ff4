-- What the tables mean while they are written, row by row: a program put together so far.
use Rattle.std.specs.Prelude.{◌≡◌, cond, List, ℕ, ◌+◌, ◌≤◌, ◌<◌, length}
use Rattle.rules.specs.Limits.{most_classes, most_methods, most_statements, work_bytes}
use Rattle.rules.specs.Syntax.{Permit, Atom, Formula, Row, Field, Method, Program, own, cmp}
use Rattle.tables.specs.declared.Expr as Tables
use Rattle.tables.specs.Layout.{most_atom_rows}
use Rattle.tables.specs.Decode.{is_permission, permit_of, rel_of, atoms_from, operands_at, rows_from, row_count, atom_count, class_count, method_count, main_first, first_row_at, classes_from, methods_from}
use Rattle.tables.specs.Tables.{AtomFits, AtomFitsAt, Declared, OperandsFit, TargetFits, FormulasFit, ClassFits, BlockFits}
use Rattle.tables.specs.Stores.{meaning}
use Rattle.write_rows.specs.Puts.{tag_of}

-- ATOMS

-- an atom that may be written
abbrev pub AtomOk : ℕ → Tables.Expr → Tables.Expr → Type 0
AtomOk k a b = AtomFits k (tag_of a) (meaning a) (meaning b)

unfoldable pub access_of : Permit → Tables.Expr → Atom ℕ
access_of p (Tables.Expr.Num n) = own p 0 0
access_of p Tables.Expr.Null = own p 0 0
access_of p (Tables.Expr.Var x) = own p x 0
access_of p (Tables.Expr.Path x f) = own p x f

-- the atom that a row means
unfoldable pub atom_of : ℕ → Tables.Expr → Tables.Expr → Atom ℕ
atom_of k a b = cond (is_permission k) (access_of (permit_of k) a) (cmp (rel_of k) (meaning a) (meaning b))

-- n atoms are written
pub record AtomsHold (w : List ℕ) (n : ℕ) : Type 0 where
  pub few : n ≤ most_atom_rows
  pub fit : (a : ℕ) → a < n → AtomFitsAt w a

-- ROWS

-- D: how many classes and methods the text declares. A line may name one that stands below it.
pub record RowsHold (D : Declared) (w : List ℕ) (n : ℕ) (rs : List Row) : Type 0 where
  pub few : length rs ≤ most_statements
  pub mean : rows_from w 0 (length rs) ≡ rs
  pub fit : (i : ℕ) → i < length rs → OperandsFit D n (operands_at w i)

-- METHODS

-- where n atoms and R rows are written
pub record MethodOk (w : List ℕ) (n R m : ℕ) : Type 0 where
  pub formulas : FormulasFit w n m
  pub first : first_row_at w m ≤ R

pub record MethodsHold (w : List ℕ) (n R : ℕ) (ms : List Method) : Type 0 where
  pub few : length ms ≤ most_methods
  pub mean : methods_from w 0 (length ms) ≡ ms
  pub fit : (m : ℕ) → m < length ms → MethodOk w n R m

-- CLASSES
pub record ClassesHold (w : List ℕ) (cs : List (List Field)) : Type 0 where
  pub few : length cs ≤ most_classes
  pub mean : classes_from w 0 (length cs) ≡ cs
  pub fit : (c : ℕ) → c < length cs → ClassFits w c

-- ALL OF THEM

-- the tables in w mean F; n atoms are written
pub record Holds (D : Declared) (w : List ℕ) (F : Program) (n : ℕ) : Type 0 where
  pub size : length w ≡ work_bytes
  pub main : F.main ≤ length F.rows
  pub atoms : AtomsHold w n
  pub rows : RowsHold D w n F.rows
  pub methods : MethodsHold w n (length F.rows) F.methods
  pub classes : ClassesHold w F.classes

-- and the last of them, from a on, are the formula φ
pub record Building (D : Declared) (w : List ℕ) (F : Program) (a n : ℕ) (φ : Formula ℕ) : Type 0 where
  pub holds : Holds D w F n
  pub place : n ≡ a + length φ
  pub mean : atoms_from w a (length φ) ≡ φ

-- THE END OF THE TEXT

-- the header has the counts
pub record Finished (D : Declared) (w : List ℕ) (F : Program) (n : ℕ) : Type 0 where
  pub holds : Holds D w F n
  pub rows : row_count w ≡ length F.rows
  pub atoms : atom_count w ≡ n
  pub classes : class_count w ≡ length F.classes
  pub methods : method_count w ≡ length F.methods
  pub main : main_first w ≡ F.main

-- what `Tables` says beside what each row was given
pub record Linked (w : List ℕ) : Type 0 where
  pub targets : (i : ℕ) → i < row_count w → TargetFits w i
  pub blocks : (m : ℕ) → m < method_count w → BlockFits w (first_row_at w m)
  pub main : BlockFits w (main_first w)
