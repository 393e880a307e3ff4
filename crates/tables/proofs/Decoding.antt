-- The program that an area holds depends on the bytes of its tables alone.
use mathlib.Core.Path.{◌≡◌, sym, subst, ◌∙◌}
use mathlib.Core.List.{List}
use mathlib.Core.Logic.{inl, inr, ⊎_elim}
use Prim.Native.Nat.{ℕ, ◌+◌, ◌≤◌, ◌<◌, zero-le}
use native.Mathlib.Omega.{arith}
use Rattle.rules.specs.Limits.{most_statements, most_methods, most_classes}
use Rattle.tables.specs.Layout.{classes_at, places_at, methods_at, atoms_at, most_names, names_at}
use Rattle.tables.specs.Decode.{byte_at, half_at, atom_place, row_place, kind_at, target_at, row_at, all_rows, row_count, atom_count, class_count, method_count, main_first, requires_at, ensures_at, method_at, methods_from, method_place, first_row_at, class_place, places_place, field_count_at, class_at, classes_from, program_in}
use Rattle.tables.specs.Tables.{RowFits, HasTarget, TargetFits, MethodFits, Tables, BlockFits, declared_in, place_at}
use Rattle.tables.specs.Stores.{Kept, SameTables}
use Rattle.tables.proofs.BytesRead.{half-kept}
use Rattle.tables.proofs.Runs.{run-same}
use Rattle.tables.proofs.Kept.{RowsKept, all-rows, one_atom, atom-fits-kept, row_same, operands-fit-kept, one-method, after-requires, first-row-kept, formulas-fit-kept, requires-kept, ensures-kept, method-same, field-count-kept, place_kept, class_same, class-fits-kept}

module _ (w w' : List ℕ) (same : SameTables w w') where
  byte : (i : ℕ) → i < names_at → byte_at w' i ≡ byte_at w i
  byte i l = same.bytes i zero-le l

  half : (i : ℕ) → i + 2 ≤ names_at → half_at w' i ≡ half_at w i
  half i l = half-kept 0 names_at w w' same.bytes i zero-le l

  part : (a b : ℕ) → b ≤ names_at → Kept a b w w'
  part a b l i p q = byte i (omega arith)

  -- THE HEADER
  pub rows-count-same : row_count w' ≡ row_count w
  rows-count-same = half 0 (omega arith)

  atoms-count-same : atom_count w' ≡ atom_count w
  atoms-count-same = half 2 (omega arith)

  pub classes-count-same : class_count w' ≡ class_count w
  classes-count-same = byte 4 (omega arith)

  pub methods-count-same : method_count w' ≡ method_count w
  methods-count-same = byte 5 (omega arith)

  main-first-same : main_first w' ≡ main_first w
  main-first-same = half 6 (omega arith)

  -- ONE COLUMN
  pub kind-same : (i : ℕ) → i < most_statements → kind_at w' i ≡ kind_at w i
  kind-same i l = byte (row_place i) (omega arith)

  pub first-row-same : (m : ℕ) → m < most_methods → first_row_at w' m ≡ first_row_at w m
  first-row-same m l = first-row-kept w w' m (part _ _ (omega arith))

  module _ (c : ℕ) (l : c < most_classes) where
    pub field-count-same : field_count_at w' c ≡ field_count_at w c
    field-count-same = field-count-kept w w' most_classes (part _ _ (omega arith)) (part _ _ (omega arith)) c l

    pub place_same : (n : ℕ) → n < most_names → place_at w' c n ≡ place_at w c n
    place_same = place_kept w w' most_classes (part _ _ (omega arith)) (part _ _ (omega arith)) c l

  module _ (tables : Tables w) where
    atoms-part : Kept atoms_at (atom_place (atom_count w)) w w'
    atoms-part = part _ _ (omega (arith, tables.atoms))

    rows-part : RowsKept (row_count w) w w'
    rows-part = all-rows _ w w' (part _ _ (omega (arith, tables.rows)))

    methods-part : Kept methods_at (method_place (method_count w)) w w'
    methods-part = part _ _ (omega (arith, tables.methods))

    classes-part : Kept classes_at (class_place (class_count w)) w w'
    classes-part = part _ _ (omega (arith, tables.classes))

    places-part : Kept places_at (places_place (class_count w)) w w'
    places-part = part _ _ (omega (arith, tables.classes))

    -- ROWS
    pub all_same : all_rows w' ≡ all_rows w
    unfolding all_rows
    all_same =
        rw rows-count-same
        (run-same (row_at w) (row_at w') 0 _
        (λ i _ l. row_same w w' _ rows-part i (omega arith) _ atoms-part (declared_in w) (tables.row_fits i (omega arith)).operands))

    -- METHODS AND CLASSES
    module _ (m : ℕ) (l : m < method_count w) where
      pub requires-same : requires_at w' m ≡ requires_at w m
      requires-same = requires-kept w w' m (one-method w w' _ methods-part m l) _ (tables.method_fits m l).formulas atoms-part

      pub ensures-same : ensures_at w' m ≡ ensures_at w m
      ensures-same = ensures-kept w w' m (after-requires w w' m (one-method w w' _ methods-part m l)) _ (tables.method_fits m l).formulas.ensures atoms-part

    methods-same : methods_from w' 0 (method_count w') ≡ methods_from w 0 (method_count w)
    methods-same =
        rw methods-count-same
        (run-same (method_at w) (method_at w') 0 _
        (λ m _ l. method-same w w' m (one-method w w' _ methods-part m (omega arith)) _ (tables.method_fits m (omega arith)).formulas atoms-part))

    classes-same : classes_from w' 0 (class_count w') ≡ classes_from w 0 (class_count w)
    classes-same =
        rw classes-count-same
        (run-same (class_at w) (class_at w') 0 _
        (λ c _ l. class_same w w' _ classes-part places-part c (omega arith) (tables.class_fits c (omega arith))))

    -- THE PROGRAM
    pub program-same : program_in w' ≡ program_in w
    unfolding program_in
    program-same = λ j. record { classes = classes-same j; methods = methods-same j; rows = all_same j; main = main-first-same j }

    -- THE TABLES
    target-kept : (i : ℕ) → i < most_statements → TargetFits w i → TargetFits w' i
    target-kept i l f =
        let k : kind_at w i ≡ kind_at w' i = sym (kind-same i l) in
        let t : target_at w' i ≡ target_at w i = half (row_place i + 10) (omega arith) in
        record {
          target = λ o. omega (arith, t, rows-count-same, f.target (subst HasTarget (sym k) o));
          after_else = λ e. rw (t, all_same) (f.after_else (k ∙ e));
          to_join = λ e. rw (t, all_same) (f.to_join (k ∙ e));
          after_again = λ e. rw (t, all_same) (f.after_again (k ∙ e));
          to_loop = λ e. rw (t, all_same) (f.to_loop (k ∙ e));
          next = ⊎_elim (λ e. inl (sym k ∙ e)) (λ n. inr (omega (arith, n, rows-count-same))) f.next;
        }

    row-fits-kept : (i : ℕ) → i < row_count w → RowFits w' i
    row-fits-kept i l =
        let f : RowFits w i = tables.row_fits i l in
        record {
          operands =
              rw (classes-count-same, methods-count-same, atoms-count-same)
              (operands-fit-kept w w' _ rows-part i l _ atoms-part (declared_in w) f.operands);
          follows = target-kept i (omega (arith, tables.rows)) f.follows;
        }

    block-kept : (i i' : ℕ) → i' ≡ i → BlockFits w i → BlockFits w' i'
    block-kept i i' e f = (omega (arith, f.0, rows-count-same), rw (e, all_same) f.1)

    method-fits-kept : (m : ℕ) → m < method_count w → MethodFits w' m
    method-fits-kept m l =
        let f : MethodFits w m = tables.method_fits m l in
        record {
          formulas = rw atoms-count-same (formulas-fit-kept w w' m (one-method w w' _ methods-part m l) _ f.formulas);
          block = block-kept _ _ (first-row-same m (omega (arith, tables.methods))) f.block;
        }

    pub tables-same : Tables w'
    tables-same =
        record {
          size = same.size ∙ tables.size;
          rows = omega (arith, rows-count-same, tables.rows);
          atoms = omega (arith, atoms-count-same, tables.atoms);
          classes = omega (arith, classes-count-same, tables.classes);
          methods = omega (arith, methods-count-same, tables.methods);
          row_fits = λ i l. row-fits-kept i (omega (arith, rows-count-same));
          atom_fits = λ a l.
              let k : a < atom_count w = omega (arith, atoms-count-same) in
              atom-fits-kept w w' a (one_atom w w' _ atoms-part a k) (tables.atom_fits a k);
          method_fits = λ m l. method-fits-kept m (omega (arith, methods-count-same));
          class_fits = λ c l.
              let k : c < class_count w = omega (arith, classes-count-same) in
              class-fits-kept w w' _ classes-part places-part c k (tables.class_fits c k);
          main_fits = block-kept _ _ main-first-same tables.main_fits;
        }
