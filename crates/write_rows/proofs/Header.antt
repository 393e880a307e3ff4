-- The header, and the program that the finished tables mean.
use mathlib.Core.Path.{◌≡◌, refl, ap, ◌∙◌}
use mathlib.Core.List.{List}
use mathlib.Core.Logic.{inr}
use Prim.Native.Nat.{ℕ, ◌+◌, ◌/◌, ◌%◌, ◌≤◌, ◌<◌}
use native.Mathlib.Omega.{arith}
use lib.ListN.{length, get_or}
use Rattle.rules.specs.Base.{Name}
use Rattle.rules.specs.Limits.{work_bytes}
use Rattle.rules.specs.Items.{a_main, a_local}
use Rattle.rules.specs.Syntax.{Program}
use Rattle.rules.specs.Reading.{with_item}
use Rattle.tables.specs.Decode.{byte_at, half_at, rows_from, all_rows, row_count, atom_count, class_count, method_count, main_first, methods_from, classes_from, program_in}
use Rattle.tables.specs.Tables.{Declared, Tables}
use Rattle.tables.specs.Stores.{Kept}
use Rattle.tables.proofs.Kept.{all-rows}
use Rattle.write_rows.specs.Puts.{header_bytes, put_header}
use Rattle.write_rows.specs.Holds.{Holds, Finished, Linked}
use Rattle.write_rows.proofs.Puts.{put-length, put_same, put-same-half, put-kept}
use Rattle.write_rows.proofs.Kept.{holds_kept}

-- LINES THAT WRITE NOTHING
pub main-written : (D : Declared) (w : List ℕ) (F : Program) (n l : ℕ) → Holds D w F n → Holds D w (with_item F l a_main) n
unfolding with_item
main-written D w F n l h =
    record { size = h.size; main = omega arith; atoms = h.atoms; rows = h.rows; methods = h.methods; classes = h.classes }

pub local-written :
    (D : Declared) (w : List ℕ) (F : Program) (n l : ℕ) (x : Name) → Holds D w F n → Holds D w (with_item F l (a_local x)) n
unfolding with_item
local-written D w F n l x h = h

-- THE HEADER
module _ (w : List ℕ) (rows atoms classes methods main : ℕ) (size : length w ≡ work_bytes) where
  header-byte :
      (k : ℕ) → k < 8 → byte_at (put_header w rows atoms classes methods main) k ≡ get_or (header_bytes rows atoms classes methods main) k 0
  unfolding put_header header_bytes
  header-byte k l = put_same w 0 (header_bytes rows atoms classes methods main) k k (omega arith) l (omega arith)

  header-half :
      (k v : ℕ) → k + 2 ≤ 8 → get_or (header_bytes rows atoms classes methods main) k 0 ≡ v % 256 →
      get_or (header_bytes rows atoms classes methods main) (k + 1) 0 ≡ v / 256 →
      half_at (put_header w rows atoms classes methods main) k ≡ v
  unfolding put_header header_bytes
  header-half k v l p q = put-same-half w 0 (header_bytes rows atoms classes methods main) k k v (omega arith) l (omega arith) p q

  rows-read : row_count (put_header w rows atoms classes methods main) ≡ rows
  unfolding header_bytes
  rows-read = header-half 0 rows (omega arith) refl refl

  atoms-read : atom_count (put_header w rows atoms classes methods main) ≡ atoms
  unfolding header_bytes
  atoms-read = header-half 2 atoms (omega arith) refl refl

  classes-read : class_count (put_header w rows atoms classes methods main) ≡ classes
  unfolding header_bytes
  classes-read = header-byte 4 (omega arith)

  methods-read : method_count (put_header w rows atoms classes methods main) ≡ methods
  unfolding header_bytes
  methods-read = header-byte 5 (omega arith)

  main-read : main_first (put_header w rows atoms classes methods main) ≡ main
  unfolding header_bytes
  main-read = header-half 6 main (omega arith) refl refl

  -- other bytes
  pub header-kept : (a b : ℕ) → 8 ≤ a → Kept a b w (put_header w rows atoms classes methods main)
  unfolding put_header header_bytes
  header-kept a b l = put-kept w 0 (header_bytes rows atoms classes methods main) a b (inr (omega arith))

  pub header-length : length (put_header w rows atoms classes methods main) ≡ length w
  unfolding put_header
  header-length = put-length w 0 (header_bytes rows atoms classes methods main)

-- the tables with their header, as the writer leaves it
abbrev pub with_header : List ℕ → Program → ℕ → List ℕ
with_header w F n = put_header w (length F.rows) n (length F.classes) (length F.methods) F.main

pub header-written : (D : Declared) (w : List ℕ) (F : Program) (n : ℕ) → Holds D w F n → Finished D (with_header w F n) F n
header-written D w F n h =
    let w' : List ℕ = with_header w F n in
    let R : ℕ = length F.rows in
    let C : ℕ = length F.classes in
    let M : ℕ = length F.methods in
    let K : (a b : ℕ) → 8 ≤ a → Kept a b w w' = header-kept w R n C M F.main h.size in
    record {
      holds =
          holds_kept D w w' F n
          (record {
            size = header-length w R n C M F.main h.size;
            atoms = K _ _ (omega arith);
            rows = all-rows R w w' (K _ _ (omega arith));
            methods = K _ _ (omega arith);
            classes = K _ _ (omega arith);
            places = K _ _ (omega arith);
          })
          h;
      rows = rows-read w R n C M F.main h.size;
      atoms = atoms-read w R n C M F.main h.size;
      classes = classes-read w R n C M F.main h.size;
      methods = methods-read w R n C M F.main h.size;
      main = main-read w R n C M F.main h.size;
    }

-- THE PROGRAM
pub finished-program : (D : Declared) (w : List ℕ) (F : Program) (n : ℕ) → Finished D w F n → program_in w ≡ F
unfolding program_in all_rows
finished-program D w F n f =
    let h : Holds D w F n = f.holds in
    let rs : all_rows w ≡ F.rows = ap (rows_from w 0) f.rows ∙ h.rows.mean in
    let cs : classes_from w 0 (class_count w) ≡ F.classes = ap (classes_from w 0) f.classes ∙ h.classes.mean in
    let ms : methods_from w 0 (method_count w) ≡ F.methods = ap (methods_from w 0) f.methods ∙ h.methods.mean in
    λ j. record { classes = cs j; methods = ms j; rows = rs j; main = f.main j }

-- with targets and blocks that fit, they are tables for the checker and the machine
pub finished-tables :
    (D : Declared) (w : List ℕ) (F : Program) (n : ℕ) → D.classes ≡ length F.classes → D.methods ≡ length F.methods →
    Finished D w F n → Linked w → Tables w
finished-tables D w F n dc dm f k =
    let h : Holds D w F n = f.holds in
    record {
      size = h.size;
      rows = omega (arith, f.rows, h.rows.few);
      atoms = omega (arith, f.atoms, h.atoms.few);
      classes = omega (arith, f.classes, h.classes.few);
      methods = omega (arith, f.methods, h.methods.few);
      row_fits = λ i l.
          record {
            operands = rw (f.atoms, f.classes, f.methods, ← dc, ← dm) (h.rows.fit i (omega (arith, f.rows)));
            follows = k.targets i l;
          };
      atom_fits = λ a l. h.atoms.fit a (omega (arith, f.atoms));
      method_fits = λ m l.
          record {
            formulas = rw f.atoms (h.methods.fit m (omega (arith, f.methods))).formulas;
            block = k.blocks m l;
          };
      class_fits = λ c l. h.classes.fit c (omega (arith, f.classes));
      main_fits = k.main;
    }
