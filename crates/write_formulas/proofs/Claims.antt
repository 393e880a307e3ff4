-- The row of a formula: it fits, and means its statement.
use Rattle.std.proofs.Common.{Result, Ok, Err}
use mathlib.Core.Path.{◌≡◌, refl, sym, ap, subst, ◌∙◌}
use mathlib.Core.Bool.{Bool, true, false, cond, ◌||◌}
use mathlib.Core.List.{List, [], ◌∷◌, map}
use mathlib.Core.Logic.{◌⊎◌, inl, inr, ⊎_elim}
use Prim.Native.Nat.{ℕ, zero, suc, ◌+◌, ◌-◌, ◌≤◌, ◌<◌}
use native.Mathlib.Omega.{arith}
use native.Mathlib.Numerals.{add-one}
use lib.Dec.{eqb}
use lib.ListN.{length, drop}
use borrow.Author.Tests.{eqb-true, ne_eqb}
use Rattle.rules.specs.Base.{Name}
use Rattle.rules.specs.Limits.{work_bytes, most_methods, most_statements, most_atoms}
use Rattle.rules.specs.Syntax.{Atom, Formula, own, cmp}
use Rattle.rules.specs.Text.{is_atom, is_formula, formula_of}
use Rattle.rules.proofs.Lists.{decide_eq}
use Rattle.rules.specs.Items.{Item, resolve_atom, a_statement, a_requires, an_ensures}
use Rattle.read_bytes.proofs.Search.{both_true, true-false}
use Rattle.read_fields.specs.Cuts.{more}
use Rattle.tables.specs.Layout.{names_at, atoms_at, most_line_atoms, atom_limit}
use Rattle.tables.specs.Decode as Decode
use Rattle.tables.specs.Decode.{run, byte_at, atom_place, is_permission, permit_of, rel_of, left_at, right_at, atom_at, atoms_from, loop_at, method_place, stmt_of}
use Rattle.tables.specs.Stores.{Kept}
use Rattle.read_scopes.specs.declared.Names.{Names}
use Rattle.read_scopes.specs.Meanings.{AreaFits, declarations_in, variables_in}
use Rattle.rules.specs.Syntax.{Program}
use Rattle.rules.specs.Reading.{with_item}
use Rattle.write_rows.specs.Puts.{put_row, put_requires, put_ensures, RowBytes}
use Rattle.write_rows.proofs.Puts.{put-length, put-kept}
use Rattle.tables.specs.Tables.{Declared, OperandsFit}
use Rattle.tables.proofs.Kept.{atoms-kept}
use Rattle.tables.proofs.Statements.{assert-means, release-means, join-means, loop-means}
use Rattle.write_rows.proofs.Methods.{requires-written, ensures-written, requires-names, ensures-names}
use Rattle.write_rows.specs.Holds.{Holds, Building}
use Rattle.write_rows.proofs.Rows.{no_field, row_written, row_kept, row-names, row-length, row_bytes}
use Rattle.read_types.specs.declared.Fault.{Fault}
use Rattle.resolve_atoms.specs.Written.{formula_after, judged_after, FormulaFollows, FormulaPut, FormulaTried}
use Rattle.write_formulas.specs.Claims.{is_claim, has_condition, loop_with, claim_of, own_first, claim_row, ClaimFollows, ClaimPut, HeaderPut, ClaimTried, HeaderTried}

pub claim-cases : (k : ℕ) → is_claim k ≡ true → (k ≡ 13) ⊎ ((k ≡ 14) ⊎ ((k ≡ 17) ⊎ (k ≡ 21)))
unfolding is_claim
claim-cases k e = go (eqb k 13) (eqb k 14) (eqb k 17) (eqb k 21) refl refl refl refl e
  where
    go :
        (a b d f : Bool) → eqb k 13 ≡ a → eqb k 14 ≡ b → eqb k 17 ≡ d → eqb k 21 ≡ f → (a || (b || (d || f))) ≡ true →
        (k ≡ 13) ⊎ ((k ≡ 14) ⊎ ((k ≡ 17) ⊎ (k ≡ 21)))
    go true b d f p q r s e = inl (eqb-true k 13 p)
    go false true d f p q r s e = inr (inl (eqb-true k 14 q))
    go false false true f p q r s e = inr (inr (inl (eqb-true k 17 r)))
    go false false false true p q r s e = inr (inr (inr (eqb-true k 21 s)))
    go false false false false p q r s e = true-false (sym e)

-- a formula of at most n atoms is one of at most m, if m is no less
formula-more : (n m : ℕ) (ws : List Name) → n ≤ m → is_formula n ws ≡ true → is_formula m ws ≡ true
unfolding is_formula
formula-more n m [] l e = refl
formula-more zero m (a ∷ ws) l e = true-false (sym e)
formula-more (suc n) zero (a ∷ ws) l e = absurd (omega (arith, l))
formula-more (suc n) (suc m) (a ∷ []) l e = true-false (sym e)
formula-more (suc n) (suc m) (a ∷ b ∷ []) l e = true-false (sym e)
formula-more (suc n) (suc m) (a ∷ b ∷ d ∷ ws) l e =
    let i = both_true (is_atom a b d) (is_formula n ws) e in rw i.0 (formula-more n m ws (omega (arith, l)) i.1)

pub follows-line : {t w : List ℕ} {c : Names} {m r n : ℕ} → m ≤ most_line_atoms → FormulaFollows t w c m r n → FormulaFollows t w c most_line_atoms r n
follows-line {t} {w} {c} {m} {r} l x = record { high = x.high; form = formula-more m most_line_atoms (more (drop r t)) l x.form; room = x.room }

-- a formula of at most m atoms
few : (m : ℕ) (ws : List Name) → is_formula m ws ≡ true → length (formula_of ws) ≤ m
unfolding is_formula formula_of
few m [] e = omega arith
few zero (a ∷ ws) e = true-false (sym e)
few (suc m) (a ∷ []) e = true-false (sym e)
few (suc m) (a ∷ b ∷ []) e = true-false (sym e)
few (suc m) (a ∷ b ∷ d ∷ ws) e =
    let i = few m ws (both_true (is_atom a b d) (is_formula m ws) e).1 in omega (arith, i)

map-length : {A B : Type 0} (f : A → B) (l : List A) → length (map f l) ≡ length l
map-length f [] = refl
map-length f (a ∷ l) = ap suc (map-length f l)

pub formula-few :
    (t w : List ℕ) (c : Names) (m r : ℕ) → is_formula m (more (drop r t)) ≡ true → length (formula_after t w c r) ≤ m
unfolding formula_after
formula-few t w c m r e =
    let a = few m (more (drop r t)) e in
    omega (arith, a, map-length (resolve_atom (declarations_in t w c) (variables_in t w c)) (formula_of (more (drop r t))))

formula-short : {t w : List ℕ} {c : Names} {m r n : ℕ} → FormulaFollows t w c m r n → length (formula_after t w c r) ≤ m
formula-short {t} {w} {c} {m} {r} x = formula-few t w c m r x.form

-- a store outside the atoms leaves the formula that was built last
formula-stays :
    (u v : List ℕ) {D : Declared} {F : Program} {n m : ℕ} {φ : Formula ℕ} → Building D u F n m φ → Kept atoms_at (atom_place m) u v →
    atoms_from v n (m - n) ≡ φ
formula-stays u v {D} {F} {n} {m} {φ} b k =
    let e : m - n ≡ length φ = omega (arith, b.place) in
    atoms-kept u v m k n (m - n) (omega (arith, b.place)) ∙ (ap (atoms_from u n) e ∙ b.mean)

-- BY THE KIND
limit-line : (k : ℕ) → atom_limit k ≤ most_line_atoms
unfolding atom_limit
limit-line k = go (eqb k 21)
  where
    go : (b : Bool) → cond b most_line_atoms most_atoms ≤ most_line_atoms
    go true = omega arith
    go false = omega arith

-- its own formula, if the atoms of its line are those from n up to m: at most eight, and after the condition of a `loop`
record Owns (k n m : ℕ) : Type 0 where
  least : own_first k n ≤ m
  most : m ≤ own_first k n + 8
  later : k ≡ 21 → own_first k n ≡ n + 1
  same : (k ≡ 21 → ⊥) → own_first k n ≡ n

pub some-atoms : (φ : Formula ℕ) → has_condition φ ≡ true → 1 ≤ length φ
unfolding has_condition
some-atoms [] e = true-false (sym e)
some-atoms (x ∷ φ) e = omega arith

owns : (k n m : ℕ) (φ : Formula ℕ) → m ≡ n + length φ → length φ ≤ atom_limit k → (k ≡ 21 → has_condition φ ≡ true) → Owns k n m
unfolding own_first atom_limit
owns k n m φ e l h = go (decide_eq k 21)
  where
    go : (k ≡ 21) ⊎ (k ≡ 21 → ⊥) → Owns k n m
    go (inl z) =
        let f : own_first k n ≡ n + 1 = rw z in
        let o : atom_limit k ≡ 9 = rw z in
        record {
          least = omega (arith, e, f, some-atoms φ (h z));
          most = omega (arith, e, f, o, l);
          later = λ _. f;
          same = λ y. absurd (y z);
        }
    go (inr y) =
        let f : own_first k n ≡ n = rw (ne_eqb k 21 y) in
        let o : atom_limit k ≡ 8 = rw (ne_eqb k 21 y) in
        record { least = omega (arith, e, f); most = omega (arith, e, f, o, l); later = λ z. absurd (y z); same = λ _. f }

-- the condition of the `loop` that the atoms are
condition-at : (u : List ℕ) (n : ℕ) (φ : Formula ℕ) → has_condition (atom_at u n ∷ φ) ≡ true → loop_at u n φ ≡ loop_with (atom_at u n ∷ φ)
unfolding atom_at has_condition loop_with
condition-at u n φ e = go (is_permission (byte_at u (atom_place n))) e
  where
    atom : Bool → Atom ℕ
    atom b =
        cond b (own (permit_of (byte_at u (atom_place n))) (byte_at u (atom_place n + 4)) (byte_at u (atom_place n + 5)))
        (cmp (rel_of (byte_at u (atom_place n))) (left_at u n) (right_at u n))

    go : (b : Bool) → has_condition (atom b ∷ φ) ≡ true → loop_at u n φ ≡ loop_with (atom b ∷ φ)
    go true e = true-false (sym e)
    go false e = refl

module _ {t w : List ℕ} {c : Names} {r n : ℕ} (k i l : ℕ) (ready : AreaFits w c) (x : ClaimFollows t w c k r n) where
  bounds : (13 ≤ k) × (k ≤ 21)
  bounds =
      ⊎_elim (λ e. omega arith) (λ o. ⊎_elim (λ e. omega arith) (λ o. ⊎_elim (λ e. omega arith) (λ e. omega arith) o) o) (claim-cases k x.claim)

  no-if : k ≡ 15 → ⊥
  no-if z =
      ⊎_elim (λ e. omega arith) (λ o. ⊎_elim (λ e. omega arith) (λ o. ⊎_elim (λ e. omega arith) (λ e. omega arith) o) o) (claim-cases k x.claim)

  pub claim-line : FormulaFollows t w c most_line_atoms r n
  claim-line = follows-line (limit-line k) x.formula

  module _ {u : List ℕ} {m : ℕ} (y : FormulaPut t w c r n u m) (line : l < 65536) where
    owned : Owns k n m
    owned = owns k n m (formula_after t w c r) y.count (formula-short x.formula) x.condition

    pub claim-least : {f : ℕ} → f ≡ own_first k n → f ≤ m
    claim-least e = omega (arith, owned.least, e)

    claim-ok : (D : Declared) → OperandsFit D m (claim_row k (own_first k n) m l)
    claim-ok D =
        record {
          kind = omega (arith, bounds);
          x = omega arith;
          y = omega arith;
          z = omega arith;
          field = no_field k (omega (arith, bounds), omega (arith, bounds));
          class = λ e. absurd (omega (arith, bounds));
          method = λ e. absurd (omega (arith, bounds));
          atoms = (omega (arith, owned.most), omega (arith, owned.least));
          one_atom = λ o. ⊎_elim (λ e. absurd (omega (arith, bounds))) (λ e. absurd (no-if e)) o;
          condition = λ e. omega (arith, owned.later e);
        }

    pub claim-bytes : {f : ℕ} → f ≡ own_first k n → RowBytes (claim_row k f m l)
    claim-bytes e =
        subst (λ f. RowBytes (claim_row k f m l)) (sym e)
        (row_bytes (record { classes = 0; methods = 0 }) m (claim_row k (own_first k n) m l) (omega (arith, y.count, x.formula.room)) (omega arith) line (claim-ok _))

    module _ {D : Declared} {F : Program} (b : Building D u F n m (formula_after t w c r)) where
      all-atoms : atoms_from u n (m - n) ≡ formula_after t w c r
      all-atoms = let e : m - n ≡ length (formula_after t w c r) = omega (arith, y.count) in rw e b.mean

      formula-means : (k ≡ 21 → ⊥) → Decode.formula_of u (claim_row k (own_first k n) m l) ≡ formula_after t w c r
      formula-means z = rw (owned.same z) all-atoms

      loop-is : k ≡ 21 → stmt_of u (claim_row k (own_first k n) m l) ≡ loop_with (formula_after t w c r)
      unfolding run
      loop-is z =
          let f = owned.later z in
          let p : own_first k n - 1 ≡ n = omega (arith, f) in
          let s : m - n ≡ suc (m - (n + 1)) = omega (arith, owned.least, f) in
          let φ : Formula ℕ = atoms_from u (n + 1) (m - (n + 1)) in
          let e : atom_at u n ∷ φ ≡ formula_after t w c r = rw (s, ← add-one n) at all-atoms in
          loop-means u (claim_row k (own_first k n) m l) z
          ∙ ((λ j. loop_at u (p j) (atoms_from u (f j) (m - f j)))
          ∙ (condition-at u n φ (ap has_condition e ∙ x.condition z) ∙ ap loop_with e))

      means : stmt_of u (claim_row k (own_first k n) m l) ≡ claim_of k (formula_after t w c r)
      unfolding claim_of
      means =
          ⊎_elim (λ q. assert-means u (claim_row k (own_first k n) m l) q ∙ rw (formula-means (λ e. omega arith)) (sym (rw q)))
          (λ o.
          ⊎_elim (λ q. release-means u (claim_row k (own_first k n) m l) q ∙ rw (formula-means (λ e. omega arith)) (sym (rw q)))
          (λ o.
          ⊎_elim (λ q. join-means u (claim_row k (own_first k n) m l) q ∙ rw (formula-means (λ e. omega arith)) (sym (rw q))) (λ q. loop-is q ∙ sym (rw q)) o) o)
          (claim-cases k x.claim)

    pub claim-put :
        (i < most_statements) → {f : ℕ} → f ≡ own_first k n → (v : List ℕ) → v ≡ put_row u i (claim_row k f m l) → ClaimPut t w c k r i n l v m
    claim-put room o v d =
        let e : v ≡ put_row u i (claim_row k (own_first k n) m l) = d ∙ ap (λ f. put_row u i (claim_row k f m l)) o in
        record {
          built = λ D F j h.
              let b = y.built D F h in
              let q = row_written D u F m (claim_row k (own_first k n) m l) (claim_of k (formula_after t w c r)) (omega (arith, j, room)) (claim-ok D) (means b) b.holds in
              subst (λ z. Holds D z (with_item F l (a_statement (claim_of k (formula_after t w c r)))) m) (sym (e ∙ ap (λ p. put_row u p (claim_row k (own_first k n) m l)) (sym j))) q;
          count = y.count;
          formula = λ D F h.
              formula-stays u _ (y.built D F h)
              (subst (Kept atoms_at (atom_place m) u) (sym e) (row_kept u i (claim_row k (own_first k n) m l) (y.size ∙ ready.whole) room _ _ (inr (omega arith))));
          names = λ p a d. ap (λ z. byte_at z p) e ∙ (row-names u i (claim_row k (own_first k n) m l) (y.size ∙ ready.whole) room p a d ∙ y.names p a d);
          size = ap length e ∙ (row-length u i (claim_row k (own_first k n) m l) (y.size ∙ ready.whole) room ∙ y.size);
        }

-- THE FORMULAS OF A METHOD
module _ {t w : List ℕ} {c : Names} {r n m : ℕ} (x : FormulaFollows t w c most_atoms r n) (room : m < most_methods) {u : List ℕ} {e : ℕ} (y : FormulaPut t w c r n u e) where
  count-is : e - n ≡ length (formula_after t w c r)
  count-is = omega (arith, y.count)

  header-bytes : (n < 65536) × (e - n < 256)
  header-bytes = omega (arith, x.room, count-is, formula-short x)

  -- what both leave: it is what `item` makes of the formula, and only bytes of the method are stored
  header-put :
      {item : Formula ℕ → Item} (put : ℕ → List ℕ) →
      ((D : Declared) (F : Program) (l : ℕ) → length F.methods ≡ suc m → Building D u F n e (formula_after t w c r) →
      Holds D (put (length (formula_after t w c r))) (with_item F l (item (formula_after t w c r))) e) →
      Kept atoms_at (atom_place e) u (put (e - n)) → Kept names_at work_bytes u (put (e - n)) → length (put (e - n)) ≡ length u →
      {v : List ℕ} → v ≡ put (e - n) → HeaderPut item t w c r m n v e
  header-put {item} put written atoms named long i =
      record {
        built = λ D F l k h.
            subst (λ z. Holds D z (with_item F l (item (formula_after t w c r))) e) (sym (i ∙ ap put count-is)) (written D F l k (y.built D F h));
        count = y.count;
        formula = λ D F h. formula-stays u _ (y.built D F h) (subst (Kept atoms_at (atom_place e) u) (sym i) atoms);
        names = λ p a d. ap (λ z. byte_at z p) i ∙ (named p a d ∙ y.names p a d);
        size = ap length i ∙ (long ∙ y.size);
      }

  pub requires-put : {v : List ℕ} → v ≡ put_requires u m n (e - n) → HeaderPut a_requires t w c r m n v e
  unfolding put_requires
  requires-put =
      header-put (put_requires u m n) (λ D F l k b. requires-written D u F n e (formula_after t w c r) m l k (formula-short x) b)
      (put-kept u (method_place m) _ _ _ (inr (omega arith))) (requires-names u m n (e - n) room) (put-length u _ _)

  pub ensures-put : {v : List ℕ} → v ≡ put_ensures u m n (e - n) → HeaderPut an_ensures t w c r m n v e
  unfolding put_ensures
  ensures-put =
      header-put (put_ensures u m n) (λ D F l k b. ensures-written D u F n e (formula_after t w c r) m l k (formula-short x) b)
      (put-kept u (method_place m + 3) _ _ _ (inr (omega arith))) (ensures-names u m n (e - n) room) (put-length u _ _)

-- A FORMULA THAT WAS TRIED
module _ (t w : List ℕ) (c : Names) (r n : ℕ) (u : List ℕ) (q : Result ℕ Fault) (y : FormulaTried t w c r n u q) where
  pub tried-done : (m : ℕ) → q ≡ Ok m → (judged_after t w c r ≡ Ok tt) × FormulaPut t w c r n u m
  unfolding FormulaTried
  tried-done m i = subst (FormulaTried t w c r n u) i y

  module _ {f : Fault} (i : q ≡ Err f) where
    tried-bad : (judged_after t w c r ≡ Err f) × (length u ≡ length w)
    unfolding FormulaTried
    tried-bad = subst (FormulaTried t w c r n u) i y

    pub claim-bad : (k j l : ℕ) → ClaimTried t w c k r j n l u (Err f)
    unfolding ClaimTried
    claim-bad k j l = tried-bad

    pub header-bad : (item : Formula ℕ → Item) (m : ℕ) → HeaderTried item t w c r m n u (Err f)
    unfolding HeaderTried
    header-bad item m = tried-bad

-- its atoms fit the row of the method m
pub header-room :
    {t w : List ℕ} {c : Names} {r n m : ℕ} → AreaFits w c → FormulaFollows t w c most_atoms r n → m < most_methods → (u : List ℕ) {q : Result ℕ Fault} →
    FormulaTried t w c r n u q → {e : ℕ} → q ≡ Ok e → (n ≤ e) × ((m < most_methods) × ((n < 65536) × (e - n < 256)))
header-room ready x room u y i =
    let p = (tried-done _ _ _ _ _ _ _ y _ i).1 in (omega (arith, p.count), (room, header-bytes x room p))

pub claim-done :
    (t w : List ℕ) (c : Names) (k r i n l : ℕ) (v : List ℕ) (m : ℕ) → judged_after t w c r ≡ Ok tt → ClaimPut t w c k r i n l v m →
    ClaimTried t w c k r i n l v (Ok m)
unfolding ClaimTried
claim-done t w c k r i n l v m f x = (f, x)

pub header-done :
    (item : Formula ℕ → Item) (t w : List ℕ) (c : Names) (r m n : ℕ) (v : List ℕ) (e : ℕ) → judged_after t w c r ≡ Ok tt →
    HeaderPut item t w c r m n v e → HeaderTried item t w c r m n v (Ok e)
unfolding HeaderTried
header-done item t w c r m n v e f x = (f, x)
