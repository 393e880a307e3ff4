-- A field's name by its number, and the last class of a list.
use mathlib.Core.Path.{◌≡◌, refl, sym, ap, subst, ◌∙◌}
use mathlib.Core.Bool.{Bool, true, false, cond}
use mathlib.Core.List.{List, [], ◌∷◌, ◌++◌, map}
use Prim.Native.Nat.{ℕ, zero, suc, ◌+◌, ◌≤◌, ◌<◌}
use native.Mathlib.Omega.{arith}
use lib.Dec.{T}
use lib.ListN.{length, get_or}
use borrow.Author.Tests.{lt-ltb}
use Rattle.rules.specs.Base.{Name, eq_name, any, index}
use Rattle.rules.specs.Syntax.{Field}
use Rattle.rules.specs.Scope.{FieldDeclaration}
use Rattle.rules.specs.Names.{field_number, no_field}
use Rattle.rules.proofs.Lists as Lists
use Rattle.rules.proofs.Lists.{T_true, cons_head, cons_tail}
use Rattle.read_bytes.proofs.Search.{true-false, or-false, same-is, same_refl}
use Rattle.read_scopes.specs.declared.Names.{Names}
use Rattle.tables.specs.Decode.{run}
use Rattle.read_names.specs.Rows.{entry_at, fields_first}
use Rattle.read_scopes.specs.Meanings.{as_field, declarations_in}
use Rattle.tables.proofs.Runs.{run_length, run-get}
use Rattle.read_names.proofs.Searches.{any-index}
use Rattle.rules.specs.Reading.{on_last}

-- THE LAST OF A LIST
module _ {A : Type 0} (d : A) where
  pub last_of : (l : List A) (a : A) → get_or (l ++ (a ∷ [])) (length l) d ≡ a
  last_of [] a = refl
  last_of (b ∷ l) a = last_of l a

  pub last-changed : (f : A → A) (l : List A) (m : ℕ) → length l ≡ suc m → get_or (on_last f l) m d ≡ f (get_or l m d)
  unfolding on_last
  last-changed f [] m e = absurd (omega arith)
  last-changed f (a ∷ []) zero e = refl
  last-changed f (a ∷ []) (suc m) e = absurd (omega arith)
  last-changed f (a ∷ b ∷ l) zero e = absurd (omega arith)
  last-changed f (a ∷ b ∷ l) (suc m) e = last-changed f (b ∷ l) m (omega arith)

-- NUMBERS OF NAMES

-- one that passes stands at k: the first stands there or before
index-before : {A : Type 0} (p : A → Bool) (d : A) (l : List A) (k : ℕ) → k < length l → p (get_or l k d) ≡ true → index p l ≤ k
unfolding index
index-before p d [] k h e = absurd (omega arith)
index-before p d (a ∷ l) zero h e = rw e (omega arith)
index-before p d (a ∷ l) (suc k) h e = go (p a) (index-before p d l k (omega arith) e)
  where
    go : (q : Bool) → index p l ≤ k → cond q 0 (suc (index p l)) ≤ suc k
    go true i = omega arith
    go false i = omega arith

module _ (t w : List ℕ) (c : Names) where
  -- the name of a row
  pub name-declared :
      (i : ℕ) (f : Name) → i < c.fields → (entry_at t w (fields_first + i)).name ≡ f → field_number (declarations_in t w c) f < c.fields
  unfolding field_number declarations_in as_field
  name-declared i f l e =
      let g : ℕ → FieldDeclaration = λ j. as_field (entry_at t w j) in
      let n : length (run g fields_first c.fields) ≡ c.fields = run_length g fields_first c.fields in
      let r = run-get g fields_first c.fields i no_field l in
      let b =
      index-before (λ d. eq_name d.name f) no_field (run g fields_first c.fields) i (omega (arith, n))
      (ap (λ d. eq_name d.name f) r ∙ (ap (λ x. eq_name x f) e ∙ same_refl f)) in
      omega (arith, b)

  -- names that have one number are one
  pub number-apart :
      (f g : Name) → field_number (declarations_in t w c) f < c.fields →
      field_number (declarations_in t w c) g ≡ field_number (declarations_in t w c) f → g ≡ f
  unfolding field_number declarations_in
  number-apart f g l e =
      let p : Name → FieldDeclaration → Bool = λ x d. eq_name d.name x in
      let ds : List FieldDeclaration = (declarations_in t w c).fields in
      let n : length ds ≡ c.fields = run_length (λ j. as_field (entry_at t w j)) fields_first c.fields in
      let a : any (p f) ds ≡ true = any-index (p f) ds ∙ lt-ltb (index (p f) ds) (length ds) (omega (arith, n)) in
      let s = Lists.index_same (p f) (p g) ds (subst T (sym a) tt) (sym e) in
      sym (same-is _ g (T_true (eq_name s.0.name g) s.2)) ∙ same-is _ f (T_true (eq_name s.0.name f) s.1)

  -- a name that is not among others has not the number of any
  pub number-new :
      (fs : List Field) (names : List Name) (f : Name) →
      map (λ g. g.name) fs ≡ map (field_number (declarations_in t w c)) names → any (eq_name f) names ≡ false →
      field_number (declarations_in t w c) f < c.fields →
      (k : ℕ) (d : Field) → k < length fs → (get_or fs k d).name ≡ field_number (declarations_in t w c) f → ⊥
  unfolding any
  number-new [] names f e a l k d h i = omega arith
  number-new (g ∷ fs) [] f e a l k d h i = let z = ap length e in omega (arith, z)
  number-new (g ∷ fs) (x ∷ names) f e a l zero d h i =
      let z : x ≡ f = number-apart f x l (sym (cons_head e) ∙ i) in
      true-false (sym (ap (eq_name f) z ∙ same_refl f) ∙ (or-false (eq_name f x) _ a).0)
  number-new (g ∷ fs) (x ∷ names) f e a l (suc k) d h i =
      number-new fs names f (cons_tail e) (or-false (eq_name f x) _ a).1 l k d (omega arith) i
