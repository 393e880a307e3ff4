-- What the tables mean after the requires of one method has changed: the same program with that requires.
use mathlib.Core.Path.{◌≡◌, refl, sym, subst, ◌∙◌}
use mathlib.Core.List.{List, []}
use mathlib.Core.Logic.{inl, inr, ⊎_elim}
use Prim.Native.Nat.{ℕ, zero, suc, ◌+◌, ◌≤◌, ◌<◌}
use native.Mathlib.Omega.{arith}
use native.Mathlib.Nat.{zero-add}
use lib.ListN.{length}
use Rattle.rules.specs.Limits.{most_statements}
use Rattle.rules.specs.Syntax.{Formula, Method}
use Rattle.rules.specs.Reading.{with_requires}
use Rattle.rules.proofs.Lists.{decide_eq}
use Rattle.filling.specs.Sets.{methods_with, program_with}
use Rattle.tables.specs.Layout.{most_atom_rows, methods_at, classes_at, places_at, atoms_at}
use Rattle.tables.specs.Decode.{run, atom_place, row_place, kind_at, target_at, row_at, all_rows, row_count, atom_count, class_count, method_count, main_first, requires_first_at, requires_count_at, ensures_first_at, ensures_count_at, requires_at, method_at, methods_from, method_place, first_row_at, class_place, places_place, class_at, classes_from, program_in}
use Rattle.tables.specs.Tables.{AtomFitsAt, AtomsFit, RowFits, HasTarget, TargetFits, FormulasFit, MethodFits, Tables, BlockFits, declared_in}
use Rattle.tables.specs.Stores.{Kept}
use Rattle.tables.proofs.BytesRead.{half-kept}
use Rattle.tables.proofs.Runs.{run-same, less-or-not}
use Rattle.tables.proofs.Kept.{RowsKept, all-rows, one_atom, atom-fits-kept, row_same, operands-fit-kept, after-requires, first-row-kept, ensures-fit-kept, ensures-kept, formulas-fit-kept, method-same, class_same, class-fits-kept}
use Rattle.write_rows.proofs.Kept.{atoms-more, operands-more}
use Rattle.fill_rows.specs.Rewrites.{Spared}

-- the bytes that stay, and what holds of those that do not
pub record Rewritten (w : List ℕ) (m n : ℕ) (w' : List ℕ) : Type 0 where
  pub size : length w' ≡ length w
  pub keeps_count : Kept 0 2 w w'
  pub rows : Kept 4 methods_at w w'
  pub others : (j : ℕ) → j < method_count w → (j ≡ m → ⊥) → Kept (method_place j) (method_place j + 8) w w'
  pub after : Kept (method_place m + 3) (method_place m + 8) w w'
  pub classes : Kept classes_at atoms_at w w'
  pub atoms : Kept atoms_at (atom_place n) w w'
  pub low : n ≤ atom_count w'
  pub few : atom_count w' ≤ most_atom_rows
  pub fit : (a : ℕ) → n ≤ a → a < atom_count w' → AtomFitsAt w' a
  pub requires : AtomsFit (atom_count w') (requires_first_at w' m) (requires_count_at w' m)

-- one of a list made place by place is changed
with-one :
    (f g : ℕ → Method) (φ : Formula ℕ) (m i k : ℕ) → m < k → ((j : ℕ) → (j ≡ i + m → ⊥) → i ≤ j → j < i + k → g j ≡ f j) →
    g (i + m) ≡ with_requires φ (f (i + m)) → run g i k ≡ methods_with m φ (run f i k)
unfolding run methods_with
with-one f g φ m i zero l same one = absurd (omega arith)
with-one f g φ zero i (suc k) l same one =
    let z : i + 0 ≡ i = omega arith in
    let e : g i ≡ with_requires φ (f i) = rw z at one in
    let r : run g (suc i) k ≡ run f (suc i) k = run-same f g (suc i) k (λ j p q. same j (λ e. omega arith) (omega arith) (omega arith)) in
    rw (e, r)
with-one f g φ (suc m) i (suc k) l same one =
    let z : i + suc m ≡ suc i + m = omega arith in
    let e : g i ≡ f i = same i (λ e. omega arith) (omega arith) (omega arith) in
    let r : run g (suc i) k ≡ methods_with m φ (run f (suc i) k) =
    with-one f g φ m (suc i) k (omega arith) (λ j d p q. same j (λ e. d (omega arith)) (omega arith) (omega arith)) (rw z at one) in
    rw (e, r)

module _ (w w' : List ℕ) (m n : ℕ) (S : Spared w m n) (R : Rewritten w m n w') where
  -- THE HEADER
  rows_same : row_count w' ≡ row_count w
  rows_same = half-kept 0 2 w w' R.keeps_count 0 (omega arith) (omega arith)

  classes-same : class_count w' ≡ class_count w
  classes-same = R.rows 4 (omega arith) (omega arith)

  pub methods-same : method_count w' ≡ method_count w
  methods-same = R.rows 5 (omega arith) (omega arith)

  main-same : main_first w' ≡ main_first w
  main-same = half-kept 4 methods_at w w' R.rows 6 (omega arith) (omega arith)

  -- ROWS
  rows-kept : RowsKept (row_count w) w w'
  rows-kept = all-rows _ w w' (λ i p q. R.rows i (omega arith) (omega (arith, S.tables.rows)))

  all_same : all_rows w' ≡ all_rows w
  unfolding all_rows
  all_same =
      rw rows_same
      (run-same (row_at w) (row_at w') 0 _
      (λ i _ l. row_same w w' _ rows-kept i (omega arith) n R.atoms (declared_in w) (S.rows i (omega arith))))

  target-kept : (i : ℕ) → i < most_statements → TargetFits w i → TargetFits w' i
  target-kept i l f =
      let k : kind_at w i ≡ kind_at w' i = sym (R.rows (row_place i) (omega arith) (omega arith)) in
      let t : target_at w' i ≡ target_at w i = half-kept 4 methods_at w w' R.rows (row_place i + 10) (omega arith) (omega arith) in
      record {
        target = λ o. omega (arith, t, rows_same, f.target (subst HasTarget (sym k) o));
        after_else = λ e. rw (t, all_same) (f.after_else (k ∙ e));
        to_join = λ e. rw (t, all_same) (f.to_join (k ∙ e));
        after_again = λ e. rw (t, all_same) (f.after_again (k ∙ e));
        to_loop = λ e. rw (t, all_same) (f.to_loop (k ∙ e));
        next = ⊎_elim (λ e. inl (sym k ∙ e)) (λ n. inr (omega (arith, n, rows_same))) f.next;
      }

  row_kept : (i : ℕ) → i < row_count w → RowFits w' i
  row_kept i l =
      record {
        operands =
            rw (classes-same, methods-same)
            (operands-more R.low (operands-fit-kept w w' _ rows-kept i l n R.atoms (declared_in w) (S.rows i l)));
        follows = target-kept i (omega (arith, S.tables.rows)) (S.tables.row_fits i l).follows;
      }

  block-kept : (i i' : ℕ) → i' ≡ i → BlockFits w i → BlockFits w' i'
  block-kept i i' e f = (omega (arith, f.0, rows_same), rw (e, all_same) f.1)

  -- METHODS
  other_fits : (j : ℕ) → j < method_count w → (j ≡ m → ⊥) → FormulasFit w' n j
  other_fits j l d = formulas-fit-kept w w' j (R.others j l d) n (S.others j l d)

  ensures-fits : AtomsFit n (ensures_first_at w' m) (ensures_count_at w' m)
  ensures-fits = ensures-fit-kept w w' m R.after n S.ensures

  formulas : (j : ℕ) → j < method_count w → FormulasFit w' (atom_count w') j
  formulas j l =
      ⊎_elim
      (λ e. rw e (record { requires = R.requires; ensures = atoms-more _ _ R.low ensures-fits }))
      (λ d.
      let f : FormulasFit w' n j = other_fits j l d in
      record { requires = atoms-more _ _ R.low f.requires; ensures = atoms-more _ _ R.low f.ensures })
      (decide_eq j m)

  first-same : (j : ℕ) → j < method_count w → first_row_at w' j ≡ first_row_at w j
  first-same j l =
      ⊎_elim (λ e. rw e (first-row-kept w w' m R.after))
      (λ d. first-row-kept w w' j (after-requires w w' j (R.others j l d)))
      (decide_eq j m)

  method_fits : (j : ℕ) → j < method_count w → MethodFits w' j
  method_fits j l =
      record { formulas = formulas j l; block = block-kept _ _ (first-same j l) (S.tables.method_fits j l).block }

  method-rewritten : method_at w' m ≡ with_requires (requires_at w' m) (method_at w m)
  unfolding method_at with_requires
  method-rewritten =
      λ j. record {
        requires = requires_at w' m;
        ensures = ensures-kept w w' m R.after n S.ensures R.atoms j;
        first = first-row-kept w w' m R.after j;
      }

  methods-rewritten : methods_from w' 0 (method_count w') ≡ methods_with m (requires_at w' m) (methods_from w 0 (method_count w))
  methods-rewritten =
      rw methods-same
      (with-one (method_at w) (method_at w') (requires_at w' m) m 0 (method_count w) S.method
      (λ j d _ l. method-same w w' j (R.others j (omega arith) (λ e. d (omega arith))) n (S.others j (omega arith) (λ e. d (omega arith))) R.atoms)
      (rw zero-add method-rewritten))

  -- CLASSES
  classes-part : Kept classes_at (class_place (class_count w)) w w'
  classes-part i p q = R.classes i (omega arith) (omega (arith, S.tables.classes))

  places-part : Kept places_at (places_place (class_count w)) w w'
  places-part i p q = R.classes i (omega arith) (omega (arith, S.tables.classes))

  pub same-classes : classes_from w' 0 (class_count w') ≡ classes_from w 0 (class_count w)
  same-classes =
      rw classes-same
      (run-same (class_at w) (class_at w') 0 _
      (λ c _ l. class_same w w' _ classes-part places-part c (omega arith) (S.tables.class_fits c (omega arith))))

  -- THE PROGRAM AND THE TABLES
  pub program-rewritten : program_in w' ≡ program_with m (requires_at w' m) (program_in w)
  unfolding program_in program_with
  program-rewritten =
      λ j. record { classes = same-classes j; methods = methods-rewritten j; rows = all_same j; main = main-same j }

  tables-rewritten : Tables w'
  tables-rewritten =
      record {
        size = R.size ∙ S.tables.size;
        rows = omega (arith, rows_same, S.tables.rows);
        atoms = R.few;
        classes = omega (arith, classes-same, S.tables.classes);
        methods = omega (arith, methods-same, S.tables.methods);
        row_fits = λ i l. row_kept i (omega (arith, rows_same));
        atom_fits = λ a l.
            ⊎_elim
            (λ k. atom-fits-kept w w' a (one_atom w w' n R.atoms a k) (S.tables.atom_fits a (omega (arith, S.low))))
            (λ k. R.fit a k l)
            (less-or-not a n _ refl);
        method_fits = λ j l. method_fits j (omega (arith, methods-same));
        class_fits = λ c l.
            let k : c < class_count w = omega (arith, classes-same) in
            class-fits-kept w w' _ classes-part places-part c k (S.tables.class_fits c k);
        main_fits = block-kept _ _ main-same S.tables.main_fits;
      }

  pub spared-rewritten : Spared w' m n
  spared-rewritten =
      record {
        tables = tables-rewritten;
        method = omega (arith, methods-same, S.method);
        low = R.low;
        room = S.room;
        rows = λ i l.
            let k : i < row_count w = omega (arith, rows_same) in
            rw (classes-same, methods-same) (operands-fit-kept w w' _ rows-kept i k n R.atoms (declared_in w) (S.rows i k));
        others = λ j l d. other_fits j (omega (arith, methods-same)) d;
        ensures = ensures-fits;
      }
