-- What rows mean depends on their bytes and on those of their atoms: other bytes may change.
use mathlib.Core.Path.{◌≡◌, refl, ap, ◌∙◌}
use mathlib.Core.Bool.{Bool, true, false, cond}
use mathlib.Core.List.{List}
use mathlib.Core.Logic.{◌⊎◌, inl, inr, ⊎_elim}
use Prim.Native.Nat.{ℕ, ◌+◌, ◌-◌, ◌*◌, ◌≤◌, ◌<◌}
use native.Mathlib.Omega.{arith}
use lib.Dec.{T, eqb, eqb→eq}
use Rattle.rules.specs.Limits.{most_fields}
use Rattle.rules.specs.Grammar.{is_computing}
use Rattle.rules.specs.Syntax.{Formula, assign, assert, release, simple, join}
use Rattle.tables.specs.declared.Operands.{Operands}
use Rattle.tables.specs.Layout.{rows_at, methods_at, classes_at, places_at, atoms_at, most_names}
use Rattle.tables.specs.Decode.{byte_at, half_at, expr_at, left_at, right_at, atom_at, atoms_from, atom_place, if_at, loop_at, row_place, kind_at, operands_at, formula_of, stmt_of, row_at, requires_first_at, requires_count_at, ensures_first_at, ensures_count_at, requires_at, ensures_at}
use Rattle.tables.specs.Decode.{method_place, first_row_at, method_at, class_place, places_place, field_count_at, field_name_at, field_at, class_at}
use Rattle.tables.specs.Tables.{AtomFitsAt, AtomsFit, Declared, OperandsFit, FormulasFit, ClassFits, place_at}
use Rattle.tables.specs.Stores.{Kept}
use Rattle.tables.proofs.BytesRead.{half-kept}
use Rattle.tables.proofs.Runs.{run-same}

-- both branches, each where it is taken
pub cond_same :
    {A : Type 0} (b : Bool) {x x' y y' : A} → (T b → x ≡ x') → ((T b → ⊥) → y ≡ y') → cond b x y ≡ cond b x' y'
cond_same true p q = p tt
cond_same false p q = q (λ t. t)

-- ATOMS

-- one of the first n
pub one_atom :
    (w w' : List ℕ) (n : ℕ) → Kept atoms_at (atom_place n) w w' → (a : ℕ) → a < n → Kept (atom_place a) (atom_place a + 12) w w'
one_atom w w' n K a l i p q = K i (omega arith) (omega arith)

module _ (w w' : List ℕ) (a : ℕ) (K : Kept (atom_place a) (atom_place a + 12) w w') where
  at : (k : ℕ) → k < 12 → byte_at w' (atom_place a + k) ≡ byte_at w (atom_place a + k)
  at k m = K (atom_place a + k) (omega arith) (omega arith)

  at-kind : byte_at w' (atom_place a) ≡ byte_at w (atom_place a)
  at-kind = K (atom_place a) (omega arith) (omega arith)

  side-kept :
      (t t' i : ℕ) → t' ≡ t → atom_place a ≤ i → i + 4 ≤ atom_place a + 12 → expr_at w' t' i ≡ expr_at w t i
  unfolding expr_at
  side-kept t t' i e p q =
      let b0 : byte_at w' i ≡ byte_at w i = K i (omega arith) (omega arith) in
      let b1 : byte_at w' (i + 1) ≡ byte_at w (i + 1) = K (i + 1) (omega arith) (omega arith) in
      let b2 : byte_at w' (i + 2) ≡ byte_at w (i + 2) = K (i + 2) (omega arith) (omega arith) in
      let b3 : byte_at w' (i + 3) ≡ byte_at w (i + 3) = K (i + 3) (omega arith) (omega arith) in
      rw e (simp (b0, b1, b2, b3))

  left-kept : left_at w' a ≡ left_at w a
  unfolding left_at
  left-kept = side-kept _ _ (atom_place a + 4) (at 1 (omega arith)) (omega arith) (omega arith)

  right_kept : right_at w' a ≡ right_at w a
  unfolding right_at
  right_kept = side-kept _ _ (atom_place a + 8) (at 2 (omega arith)) (omega arith) (omega arith)

  if_kept : if_at w' a ≡ if_at w a
  if_kept = simp (at-kind, left-kept, right_kept)

  loop-kept : {φ ψ : Formula ℕ} → φ ≡ ψ → loop_at w' a φ ≡ loop_at w a ψ
  loop-kept e = rw e (simp (at-kind, left-kept, right_kept))

  atom-kept : atom_at w' a ≡ atom_at w a
  unfolding atom_at
  atom-kept =
      let x : byte_at w' (atom_place a + 4) ≡ byte_at w (atom_place a + 4) = at 4 (omega arith) in
      let f : byte_at w' (atom_place a + 5) ≡ byte_at w (atom_place a + 5) = at 5 (omega arith) in
      simp (at-kind, x, f, left-kept, right_kept)

  pub atom-fits-kept : AtomFitsAt w a → AtomFitsAt w' a
  atom-fits-kept f = rw (at-kind, at 1 (omega arith), left-kept, right_kept) f

module _ (w w' : List ℕ) (n : ℕ) (K : Kept atoms_at (atom_place n) w w') where
  pub atoms-kept : (a k : ℕ) → a + k ≤ n → atoms_from w' a k ≡ atoms_from w a k
  atoms-kept a k l = run-same (atom_at w) (atom_at w') a k (λ i p q. atom-kept w w' i (one_atom w w' n K i (omega arith)))

  -- ROWS
  module _ (D : Declared) (r : Operands) (fits : OperandsFit D n r) where
    one : (r.kind ≡ 9) ⊎ (r.kind ≡ 15) → r.first < n
    one o = omega (arith, fits.one_atom o, fits.atoms)

    before : r.kind ≡ 21 → r.first - 1 < n
    before e = omega (arith, fits.condition e, fits.atoms.1)

    formula-kept : formula_of w' r ≡ formula_of w r
    formula-kept = atoms-kept r.first r.atoms fits.atoms.1

    pub stmt-kept : stmt_of w' r ≡ stmt_of w r
    unfolding stmt_of
    stmt-kept =
        let to-let :
        T (eqb r.kind 9) → simple (assign r.x (right_at w' r.first)) ≡ simple (assign r.x (right_at w r.first)) =
        λ t. rw (right_kept w w' r.first (one_atom w w' n K _ (one (inl (eqb→eq r.kind 9 t))))) in
        let to-assert : simple (assert (formula_of w' r)) ≡ simple (assert (formula_of w r)) = rw formula-kept in
        let to-release : simple (release (formula_of w' r)) ≡ simple (release (formula_of w r)) = rw formula-kept in
        let to-if : T (eqb r.kind 15) → if_at w' r.first ≡ if_at w r.first =
        λ t. if_kept w w' r.first (one_atom w w' n K _ (one (inr (eqb→eq r.kind 15 t)))) in
        let to_join : join (formula_of w' r) ≡ join (formula_of w r) = rw formula-kept in
        let to_loop : T (eqb r.kind 21) → loop_at w' (r.first - 1) (formula_of w' r) ≡ loop_at w (r.first - 1) (formula_of w r) =
        λ t. loop-kept w w' (r.first - 1) (one_atom w w' n K _ (before (eqb→eq r.kind 21 t))) formula-kept in
        cond_same (eqb r.kind 8) (λ _. refl)
        (λ _. cond_same (eqb r.kind 9) to-let
        (λ _. cond_same (eqb r.kind 10) (λ _. refl)
        (λ _. cond_same (eqb r.kind 11) (λ _. refl)
        (λ _. cond_same (eqb r.kind 12) (λ _. refl)
        (λ _. cond_same (eqb r.kind 13) (λ _. to-assert)
        (λ _. cond_same (eqb r.kind 14) (λ _. to-release)
        (λ _. cond_same (eqb r.kind 15) to-if
        (λ _. cond_same (eqb r.kind 16) (λ _. refl)
        (λ _. cond_same (eqb r.kind 17) (λ _. to_join)
        (λ _. cond_same (is_computing r.kind) (λ _. refl)
        (λ _. cond_same (eqb r.kind 21) to_loop (λ _. refl))))))))))))

-- the bytes of the first R rows are the same, but for their targets
abbrev pub RowsKept : ℕ → List ℕ → List ℕ → Type 0
RowsKept R w w' = (i j : ℕ) → i < R → row_place i ≤ j → j < row_place i + 10 → byte_at w' j ≡ byte_at w j

pub all-rows : (R : ℕ) (w w' : List ℕ) → Kept rows_at (row_place R) w w' → RowsKept R w w'
all-rows R w w' K i j l p q = K j (omega arith) (omega arith)

module _ (w w' : List ℕ) (R : ℕ) (K : RowsKept R w w') (i : ℕ) (l : i < R) where
  pub operands-kept : operands_at w' i ≡ operands_at w i
  operands-kept =
      let byte : (k : ℕ) → k < 10 → byte_at w' (row_place i + k) ≡ byte_at w (row_place i + k) =
      λ k m. K i (row_place i + k) l (omega arith) (omega arith) in
      let half : (k : ℕ) → k + 2 ≤ 10 → half_at w' (row_place i + k) ≡ half_at w (row_place i + k) =
      λ k m. half-kept (row_place i) (row_place i + 10) w w' (λ j p q. K i j l p q) (row_place i + k) (omega arith) (omega arith) in
      let first : kind_at w' i ≡ kind_at w i = K i (row_place i) l (omega arith) (omega arith) in
      λ j. record {
        kind = first j;
        x = byte 1 (omega arith) j;
        y = byte 2 (omega arith) j;
        z = byte 3 (omega arith) j;
        member = byte 4 (omega arith) j;
        atoms = byte 5 (omega arith) j;
        first = half 6 (omega arith) j;
        line = half 8 (omega arith) j;
      }

  module _ (n : ℕ) (KA : Kept atoms_at (atom_place n) w w') (D : Declared) (fits : OperandsFit D n (operands_at w i)) where
    pub row_same : row_at w' i ≡ row_at w i
    unfolding row_at
    row_same =
        let s : stmt_of w' (operands_at w' i) ≡ stmt_of w (operands_at w i) =
        ap (stmt_of w') operands-kept ∙ stmt-kept w w' n KA D (operands_at w i) fits in
        λ j. record { line = (operands-kept j).line; stmt = s j }

    pub operands-fit-kept : OperandsFit D n (operands_at w' i)
    operands-fit-kept = rw operands-kept fits

-- METHODS

-- a method among the first M
pub one-method :
    (w w' : List ℕ) (M : ℕ) → Kept methods_at (method_place M) w w' → (m : ℕ) → m < M → Kept (method_place m) (method_place m + 8) w w'
one-method w w' M K m l i p q = K i (omega arith) (omega arith)

-- what follows its requires
module _ (w w' : List ℕ) (m : ℕ) (K : Kept (method_place m + 3) (method_place m + 8) w w') where
  ensures-first-kept : ensures_first_at w' m ≡ ensures_first_at w m
  ensures-first-kept = half-kept _ _ w w' K (method_place m + 4) (omega arith) (omega arith)

  ensures-count-kept : ensures_count_at w' m ≡ ensures_count_at w m
  ensures-count-kept = K (method_place m + 3) (omega arith) (omega arith)

  pub first-row-kept : first_row_at w' m ≡ first_row_at w m
  first-row-kept = half-kept _ _ w w' K (method_place m + 6) (omega arith) (omega arith)

  module _ (n : ℕ) (fits : AtomsFit n (ensures_first_at w m) (ensures_count_at w m)) where
    pub ensures-fit-kept : AtomsFit n (ensures_first_at w' m) (ensures_count_at w' m)
    ensures-fit-kept = rw (ensures-first-kept, ensures-count-kept) fits

    pub ensures-kept : Kept atoms_at (atom_place n) w w' → ensures_at w' m ≡ ensures_at w m
    unfolding ensures_at
    ensures-kept KA = rw (ensures-first-kept, ensures-count-kept) (atoms-kept w w' n KA _ _ fits.1)

module _ (w w' : List ℕ) (m : ℕ) (K : Kept (method_place m) (method_place m + 8) w w') where
  requires-first-kept : requires_first_at w' m ≡ requires_first_at w m
  requires-first-kept = half-kept _ _ w w' K (method_place m) (omega arith) (omega arith)

  requires-count-kept : requires_count_at w' m ≡ requires_count_at w m
  requires-count-kept = K (method_place m + 2) (omega arith) (omega arith)

  pub after-requires : Kept (method_place m + 3) (method_place m + 8) w w'
  after-requires i p q = K i (omega arith) q

  module _ (n : ℕ) (fits : FormulasFit w n m) where
    pub formulas-fit-kept : FormulasFit w' n m
    formulas-fit-kept =
        record {
          requires = rw (requires-first-kept, requires-count-kept) fits.requires;
          ensures = ensures-fit-kept w w' m after-requires n fits.ensures;
        }

    module _ (KA : Kept atoms_at (atom_place n) w w') where
      pub requires-kept : requires_at w' m ≡ requires_at w m
      unfolding requires_at
      requires-kept = rw (requires-first-kept, requires-count-kept) (atoms-kept w w' n KA _ _ fits.requires.1)

      pub method-same : method_at w' m ≡ method_at w m
      unfolding method_at
      method-same =
          λ j. record {
            requires = requires-kept j;
            ensures = ensures-kept w w' m after-requires n fits.ensures KA j;
            first = first-row-kept w w' m after-requires j;
          }

-- CLASSES
module _
    (w w' : List ℕ) (C : ℕ) (KC : Kept classes_at (class_place C) w w') (KP : Kept places_at (places_place C) w w') (c : ℕ) (l : c < C) where
  pub field-count-kept : field_count_at w' c ≡ field_count_at w c
  field-count-kept = KC (class_place c) (omega arith) (omega arith)

  field-name-kept : (j : ℕ) → j < most_fields → field_name_at w' c j ≡ field_name_at w c j
  field-name-kept j k = KC (class_place c + 1 + j * 2) (omega arith) (omega arith)

  pub place_kept : (m : ℕ) → m < most_names → place_at w' c m ≡ place_at w c m
  place_kept m k = KP (places_place c + m) (omega arith) (omega arith)

  field-kept : (j : ℕ) → j < most_fields → field_at w' c j ≡ field_at w c j
  unfolding field_at
  field-kept j k =
      let p : field_name_at w' c j ≡ field_name_at w c j = field-name-kept j k in
      let q : byte_at w' (class_place c + 2 + j * 2) ≡ byte_at w (class_place c + 2 + j * 2) = KC _ (omega arith) (omega arith) in
      simp (p, q)

  module _ (f : ClassFits w c) where
    pub class_same : class_at w' c ≡ class_at w c
    unfolding class_at
    class_same =
        rw field-count-kept (run-same (field_at w c) (field_at w' c) 0 _ (λ j _ k. field-kept j (omega (arith, f.count))))

    pub class-fits-kept : ClassFits w' c
    class-fits-kept =
        let n : field_count_at w' c ≡ field_count_at w c = field-count-kept in
        let small : (j : ℕ) → j < field_count_at w' c → j < most_fields = λ j k. omega (arith, n, f.count) in
        record {
          count = omega (arith, n, f.count);
          names = λ j k. rw (field-name-kept j (small j k)) (f.names j (omega arith));
          places = λ j k.
              rw (field-name-kept j (small j k), place_kept (field_name_at w c j) (f.names j (omega arith))) (f.places j (omega arith));
          found = λ m k.
              rw (place_kept m k, n)
              (⊎_elim (λ e. inl e)
              (λ p. inr (p.0, field-name-kept (place_at w c m) (omega (arith, p.0, f.count)) ∙ p.1))
              (f.found m k));
        }
