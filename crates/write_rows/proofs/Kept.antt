-- What is put together so far stays so where the bytes of the rows that are written stay.
use mathlib.Core.Path.{◌≡◌, refl, ◌∙◌}
use mathlib.Core.List.{List}
use Prim.Native.Nat.{ℕ, ◌≤◌, ◌<◌}
use native.Mathlib.Omega.{arith}
use lib.ListN.{length}
use Rattle.rules.specs.Limits.{work_bytes}
use Rattle.rules.specs.Syntax.{Row, Field, Program, Method}
use Rattle.rules.specs.Reading.{no_program}
use Rattle.tables.specs.declared.Operands.{Operands}
use Rattle.tables.specs.Layout.{methods_at, classes_at, places_at, atoms_at, names_at}
use Rattle.tables.specs.Decode.{run, atom_place, row_at, method_place, method_at, class_place, places_place, class_at}
use Rattle.tables.specs.Tables.{AtomsFit, Declared, OperandsFit}
use Rattle.tables.specs.Stores.{Kept, SameTables}
use Rattle.tables.proofs.Runs.{run-kept}
use Rattle.tables.proofs.Kept.{RowsKept, all-rows, one_atom, atom-fits-kept, row_same, operands-fit-kept, one-method, after-requires, first-row-kept, formulas-fit-kept, method-same, class_same, class-fits-kept}
use Rattle.write_rows.specs.Holds.{AtomsHold, RowsHold, MethodOk, MethodsHold, ClassesHold, Holds}

-- MORE ATOMS AND ROWS
pub atoms-more : {n n' : ℕ} (a k : ℕ) → n ≤ n' → AtomsFit n a k → AtomsFit n' a k
atoms-more {n} {n'} a k l r = omega arith

pub operands-more : {D : Declared} {n n' : ℕ} {r : Operands} → n ≤ n' → OperandsFit D n r → OperandsFit D n' r
operands-more {D} {n} {n'} {r} l o =
    record {
      kind = o.kind;
      x = o.x;
      y = o.y;
      z = o.z;
      field = o.field;
      class = o.class;
      method = o.method;
      atoms = atoms-more r.first r.atoms l o.atoms;
      one_atom = o.one_atom;
      condition = o.condition;
    }

pub method-more : {w : List ℕ} {n n' R R' m : ℕ} → n ≤ n' → R ≤ R' → MethodOk w n R m → MethodOk w n' R' m
method-more {w} {n} {n'} {R} {R'} {m} l k o =
    record {
      formulas = record { requires = atoms-more _ _ l o.formulas.requires; ensures = atoms-more _ _ l o.formulas.ensures };
      first = omega (arith, o.first);
    }

-- THE SAME BYTES
module _ (w w' : List ℕ) (n : ℕ) (KA : Kept atoms_at (atom_place n) w w') where
  pub atoms-hold-kept : AtomsHold w n → AtomsHold w' n
  atoms-hold-kept h = record { few = h.few; fit = λ a l. atom-fits-kept w w' a (one_atom w w' n KA a l) (h.fit a l) }

  pub rows-kept : (D : Declared) (rs : List Row) → RowsKept (length rs) w w' → RowsHold D w n rs → RowsHold D w' n rs
  rows-kept D rs KR h =
      record {
        few = h.few;
        mean =
            run-kept (row_at w) (row_at w') rs h.mean
            (λ i l. row_same w w' (length rs) KR i l n KA D (h.fit i l));
        fit = λ i l. operands-fit-kept w w' (length rs) KR i l n KA D (h.fit i l);
      }

  -- the first M methods
  pub method-ok-kept :
      (R M : ℕ) → Kept methods_at (method_place M) w w' → (m : ℕ) → m < M → MethodOk w n R m → MethodOk w' n R m
  method-ok-kept R M KM m l o =
      record {
        formulas = formulas-fit-kept w w' m (one-method w w' M KM m l) n o.formulas;
        first = rw (first-row-kept w w' m (after-requires w w' m (one-method w w' M KM m l))) o.first;
      }

  pub methods-kept :
      (R : ℕ) (ms : List Method) → Kept methods_at (method_place (length ms)) w w' → MethodsHold w n R ms → MethodsHold w' n R ms
  methods-kept R ms KM h =
      record {
        few = h.few;
        mean =
            run-kept (method_at w) (method_at w') ms h.mean
            (λ m l. method-same w w' m (one-method w w' (length ms) KM m l) n (h.fit m l).formulas KA);
        fit = λ m l. method-ok-kept R (length ms) KM m l (h.fit m l);
      }

pub classes-kept :
    (w w' : List ℕ) (cs : List (List Field)) →
    Kept classes_at (class_place (length cs)) w w' → Kept places_at (places_place (length cs)) w w' →
    ClassesHold w cs → ClassesHold w' cs
classes-kept w w' cs KC KP h =
    record {
      few = h.few;
      mean =
          run-kept (class_at w) (class_at w') cs h.mean
          (λ c l. class_same w w' (length cs) KC KP c l (h.fit c l));
      fit = λ c l. class-fits-kept w w' (length cs) KC KP c l (h.fit c l);
    }

-- ALL OF THEM

-- the bytes of all rows that are written are the same
pub record SameRows (w w' : List ℕ) (F : Program) (n : ℕ) : Type 0 where
  pub size : length w' ≡ length w
  pub atoms : Kept atoms_at (atom_place n) w w'
  pub rows : RowsKept (length F.rows) w w'
  pub methods : Kept methods_at (method_place (length F.methods)) w w'
  pub classes : Kept classes_at (class_place (length F.classes)) w w'
  pub places : Kept places_at (places_place (length F.classes)) w w'

pub holds_kept : (D : Declared) (w w' : List ℕ) (F : Program) (n : ℕ) → SameRows w w' F n → Holds D w F n → Holds D w' F n
holds_kept D w w' F n s h =
    record {
      size = s.size ∙ h.size;
      main = h.main;
      atoms = atoms-hold-kept w w' n s.atoms h.atoms;
      rows = rows-kept w w' n s.atoms D F.rows s.rows h.rows;
      methods = methods-kept w w' n s.atoms (length F.rows) F.methods s.methods h.methods;
      classes = classes-kept w w' F.classes s.classes s.places h.classes;
    }

-- what lies past the tables is free
pub holds_same : (D : Declared) (w w' : List ℕ) (F : Program) (n : ℕ) → SameTables w w' → Holds D w F n → Holds D w' F n
holds_same D w w' F n s h =
    let K : (a b : ℕ) → b ≤ names_at → Kept a b w w' = λ a b l i p q. s.bytes i (omega arith) (omega arith) in
    holds_kept D w w' F n
    (record {
      size = s.size;
      atoms = K _ _ (omega (arith, h.atoms.few));
      rows = all-rows _ w w' (K _ _ (omega (arith, h.rows.few)));
      methods = K _ _ (omega (arith, h.methods.few));
      classes = K _ _ (omega (arith, h.classes.few));
      places = K _ _ (omega (arith, h.classes.few));
    })
    h

-- nothing is written yet
pub none_written : (D : Declared) (w : List ℕ) → length w ≡ work_bytes → Holds D w no_program 0
unfolding run
none_written D w size =
    record {
      size = size;
      main = omega arith;
      atoms = record { few = omega arith; fit = λ i l. absurd (omega arith) };
      rows = record { few = omega arith; mean = refl; fit = λ i l. absurd (omega arith) };
      methods = record { few = omega arith; mean = refl; fit = λ i l. absurd (omega arith) };
      classes = record { few = omega arith; mean = refl; fit = λ i l. absurd (omega arith) };
    }
