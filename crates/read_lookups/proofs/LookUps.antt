-- What a search among the rows says of the declarations and variables that they mean.
use mathlib.Core.Path.{◌≡◌, refl, sym, ap, ◌∙◌}
use mathlib.Core.Bool.{Bool, true, false, not, cond, ◌&&◌, ◌||◌}
use mathlib.Core.List.{List, [], ◌∷◌, map}
use mathlib.Core.Option.{Option, none, some}
use Prim.Native.Nat.{ℕ, zero, suc, ◌+◌, ◌≤◌, ◌<◌}
use native.Mathlib.Omega.{arith}
use native.Mathlib.Numerals.{add-one}
use lib.Dec.{eqb, ltb}
use lib.ListN.{get_or}
use borrow.Author.Tests.{lt-ltb, ltb-true, ltb-false, eq-eqb, ne_eqb}
use Rattle.rules.specs.Base.{Name, bytes, is, eq_name, any, first, index, with_default}
use Rattle.rules.specs.Text.{reserved}
use Rattle.rules.specs.Syntax.{this_variable, result_variable}
use Rattle.rules.specs.Scope.{Variable}
use Rattle.rules.specs.Names.{missing_variable, no_field, no_declaration, class_number, is_field_of, is_method_of, field_type, field_number, method_number, in_scope, look_up, variable_number, variable_type}
use Rattle.read_bytes.proofs.Search.{both_true}
use Rattle.read_names.specs.declared.Span.{Span}
use Rattle.read_scopes.specs.declared.Names.{Names}
use Rattle.tables.specs.Decode.{run}
use Rattle.read_names.specs.Rows.{Entry, entry_at, is_entry, any_owner, name_in, owner_at, gives_at, classes_first, fields_first, methods_first, variables_first}
use Rattle.read_scopes.specs.Meanings.{as_field, as_method, names_from, declarations_in, variable_at, this_in, result_in, block_in, own_variables}
use Rattle.read_lookups.specs.LookUps.{type_of, Looked, own_in, is_new}
use Rattle.tables.proofs.Runs.{run-get, run_past}
use Rattle.read_names.proofs.Searches.{index_same, index-both, any-rows, first-index, first_found, first-none, name-comm}

-- the tests of a search: by name alone, and of an owner
entry-any : (x : Name) (e : Entry) → is_entry any_owner x e ≡ eq_name e.name x
unfolding is_entry
entry-any x e = refl

entry_of : (k : ℕ) (x : Name) (e : Entry) → k < any_owner → is_entry k x e ≡ (eqb e.owner k && eq_name e.name x)
unfolding is_entry
entry_of k x e l = rw (ne_eqb k any_owner (λ z. omega arith))

-- DECLARATIONS
module _ (t w : List ℕ) (c : Names) where
  pub class-index : (x : Name) → index (is_entry any_owner x) (run (entry_at t w) classes_first c.classes) ≡ class_number (declarations_in t w c) x
  unfolding declarations_in names_from class_number
  class-index x =
      index_same (is_entry any_owner x) (eq_name x) (entry_at t w) (λ j. (entry_at t w j).name) classes_first classes_first c.classes
      (λ k l. entry-any x _ ∙ name-comm _ x)

  pub class-any : (x : Name) → any (eq_name x) (declarations_in t w c).classes ≡ ltb (class_number (declarations_in t w c) x) c.classes
  unfolding declarations_in names_from class_number
  class-any x = any-rows (eq_name x) (λ j. (entry_at t w j).name) classes_first c.classes

  pub name-index : (f : Name) → index (is_entry any_owner f) (run (entry_at t w) fields_first c.fields) ≡ field_number (declarations_in t w c) f
  unfolding declarations_in field_number as_field
  name-index f =
      index_same (is_entry any_owner f) (λ d. eq_name d.name f) (entry_at t w) (λ j. as_field (entry_at t w j)) fields_first fields_first
      c.fields (λ k l. entry-any f _)

  module _ (C : Name) (k : ℕ) (own : k ≡ class_number (declarations_in t w c) C) (small : k < any_owner) where
    pub field-index :
        (f : Name) → index (is_entry k f) (run (entry_at t w) fields_first c.fields)
        ≡ index (is_field_of (declarations_in t w c) C f) (declarations_in t w c).fields
    unfolding declarations_in is_field_of as_field
    field-index f =
        index_same (is_entry k f) (is_field_of (declarations_in t w c) C f) (entry_at t w) (λ j. as_field (entry_at t w j)) fields_first
        fields_first c.fields
        (λ i l.
        entry_of k f (entry_at t w (fields_first + i)) small
        ∙ ap (λ n. eqb (entry_at t w (fields_first + i)).owner n && eq_name (entry_at t w (fields_first + i)).name f) own)

    -- the first field f of any class, if it is of this one
    pub field-owned :
        (f : Name) (i : ℕ) → i ≡ field_number (declarations_in t w c) f → (ltb i c.fields && eqb (owner_at w (fields_first + i)) k) ≡ true →
        i ≡ index (is_field_of (declarations_in t w c) C f) (declarations_in t w c).fields
    unfolding is_entry entry_at
    field-owned f i e h =
        index-both (λ r. eqb k any_owner || eqb r.owner k) (λ r. eq_name r.name f) (entry_at t w) fields_first c.fields i
        (e ∙ sym (name-index f)) (rw (ne_eqb k any_owner (λ z. omega arith)) (both_true (ltb i c.fields) (eqb (owner_at w (fields_first + i)) k) h).1)
        ∙ field-index f

    pub method-index :
        (m : Name) → index (is_entry k m) (run (entry_at t w) methods_first c.methods) ≡ method_number (declarations_in t w c) C m
    unfolding declarations_in method_number is_method_of as_method
    method-index m =
        index_same (is_entry k m) (is_method_of (declarations_in t w c) C m) (entry_at t w) (λ j. as_method (entry_at t w j)) methods_first
        methods_first c.methods
        (λ i l.
        entry_of k m (entry_at t w (methods_first + i)) small
        ∙ ap (λ n. eqb (entry_at t w (methods_first + i)).owner n && eq_name (entry_at t w (methods_first + i)).name m) own)

  module _ (C f : Name) where
    pub field-any :
        any (is_field_of (declarations_in t w c) C f) (declarations_in t w c).fields
        ≡ ltb (index (is_field_of (declarations_in t w c) C f) (declarations_in t w c).fields) c.fields
    unfolding declarations_in
    field-any = any-rows (is_field_of (declarations_in t w c) C f) (λ j. as_field (entry_at t w j)) fields_first c.fields

    pub type-by : (i : ℕ) → i ≡ index (is_field_of (declarations_in t w c) C f) (declarations_in t w c).fields →
        field_type (declarations_in t w c) C f ≡ (get_or (declarations_in t w c).fields i no_field).type
    unfolding field_type
    type-by i e =
        ap (λ d. d.type) (first-index (is_field_of (declarations_in t w c) C f) no_field (declarations_in t w c).fields)
        ∙ ap (λ k. (get_or (declarations_in t w c).fields k no_field).type) (sym e)

  pub field_at :
      (i : ℕ) → i < c.fields → (get_or (declarations_in t w c).fields i no_field).type ≡ name_in t (gives_at w (fields_first + i))
  unfolding declarations_in as_field entry_at
  field_at i l = ap (λ d. d.type) (run-get (λ j. as_field (entry_at t w j)) fields_first c.fields i no_field l)

  pub field_past : (i : ℕ) → c.fields ≤ i → (get_or (declarations_in t w c).fields i no_field).type ≡ []
  unfolding declarations_in
  field_past i l = ap (λ d. d.type) (run_past (λ j. as_field (entry_at t w j)) fields_first c.fields i no_field l)

  pub method-any :
      (C m : Name) → any (is_method_of (declarations_in t w c) C m) (declarations_in t w c).methods
      ≡ ltb (method_number (declarations_in t w c) C m) c.methods
  unfolding declarations_in method_number
  method-any C m = any-rows (is_method_of (declarations_in t w c) C m) (λ j. as_method (entry_at t w j)) methods_first c.methods

  pub method-at :
      (i : ℕ) → i < c.methods →
      get_or (declarations_in t w c).methods i no_declaration ≡ as_method (entry_at t w (methods_first + i))
  unfolding declarations_in
  method-at i l = run-get (λ j. as_method (entry_at t w j)) methods_first c.methods i no_declaration l

  pub method-past : (i : ℕ) → c.methods ≤ i → get_or (declarations_in t w c).methods i no_declaration ≡ no_declaration
  unfolding declarations_in
  method-past i l = run_past (λ j. as_method (entry_at t w j)) methods_first c.methods i no_declaration l

-- VARIABLES
is_some : {A : Type 0} → Option A → Bool
is_some none = false
is_some (some a) = true

any-first : {A : Type 0} (p : A → Bool) (l : List A) → any p l ≡ is_some (first p l)
unfolding any first is_some
any-first p [] = refl
any-first p (a ∷ l) = go (p a) (any-first p l)
  where
    go : (q : Bool) → any p l ≡ is_some (first p l) → (q || any p l) ≡ is_some (cond q (some a) (first p l))
    go true e = refl
    go false e = e

module _ (t w : List ℕ) (vs : List Variable) (x : Name) where
  -- what the first variable of this name makes of an answer
  looked-some :
      (v : Variable) (r : ℕ) → first (λ v. eq_name v.name x) vs ≡ some v → v.number ≡ r → r < 15 →
      v.type ≡ name_in t (gives_at w (variables_first + r)) → Looked t w vs x r
  unfolding variable_number variable_type in_scope look_up type_of with_default is_some
  looked-some v r e n l k =
      record {
        number = sym n ∙ sym (ap (λ o. (with_default missing_variable o).number) e);
        within = omega arith;
        known = any-first (λ v. eq_name v.name x) vs ∙ (ap is_some e ∙ sym (lt-ltb r 15 l));
        type = ap (λ o. (with_default missing_variable o).type) e ∙ (k ∙ rw (ne_eqb r 15 (λ z. omega arith)));
      }

  looked-none : first (λ v. eq_name v.name x) vs ≡ none → Looked t w vs x 15
  unfolding variable_number variable_type in_scope look_up type_of with_default is_some
  looked-none e =
      record {
        number = sym (ap (λ o. (with_default missing_variable o).number) e);
        within = omega arith;
        known = any-first (λ v. eq_name v.name x) vs ∙ ap is_some e;
        type = ap (λ o. (with_default missing_variable o).type) e;
      }

  -- another variable before them
  first_on : (v : Variable) → eq_name v.name x ≡ false → first (λ v. eq_name v.name x) (v ∷ vs) ≡ first (λ v. eq_name v.name x) vs
  unfolding first
  first_on v e = rw e

  pub looked-on : (v : Variable) (r : ℕ) → eq_name v.name x ≡ false → Looked t w vs x r → Looked t w (v ∷ vs) x r
  unfolding variable_number variable_type in_scope look_up any
  looked-on v r e h =
      record {
        number = h.number ∙ sym (ap (λ o. (with_default missing_variable o).number) (first_on v e));
        within = h.within;
        known = ap (λ q. q || any (λ v. eq_name v.name x) vs) e ∙ h.known;
        type = ap (λ o. (with_default missing_variable o).type) (first_on v e) ∙ h.type;
      }

pub looked-this : (t w : List ℕ) (vs : List Variable) (x : Name) → eq_name (bytes "this") x ≡ true → Looked t w (this_in t w ∷ vs) x this_variable
unfolding first
looked-this t w vs x e = looked-some t w (this_in t w ∷ vs) x (this_in t w) this_variable (rw e) refl (omega arith) refl

module _ (t w : List ℕ) (from n : ℕ) (b : Bool) (x : Name) where
  own-index :
      index (is_entry any_owner x) (run (entry_at t w) (variables_first + from) n) ≡ index (λ v. eq_name v.name x) (run (variable_at t w) from n)
  unfolding variable_at
  own-index =
      index_same (is_entry any_owner x) (λ v. eq_name v.name x) (entry_at t w) (variable_at t w) (variables_first + from) from n
      (λ k l.
      let z : variables_first + from + k ≡ variables_first + (from + k) = omega arith in
      entry-any x _ ∙ ap (λ i. eq_name (entry_at t w i).name x) z)

  pub own-found :
      (i : ℕ) → i ≡ index (is_entry any_owner x) (run (entry_at t w) (variables_first + from) n) → i < n → from + n ≤ 14 →
      Looked t w (own_in t w from n b) x (from + i)
  unfolding own_in variable_at entry_at
  own-found i e l f =
      looked-some t w (own_in t w from n b) x (variable_at t w (from + i)) (from + i)
      (first_found (λ v. eq_name v.name x) (variable_at t w) (cond b (result_in t w ∷ []) []) from n i (e ∙ own-index) l)
      refl (omega arith) refl

  own-past :
      n ≤ index (is_entry any_owner x) (run (entry_at t w) (variables_first + from) n) →
      first (λ v. eq_name v.name x) (own_in t w from n b) ≡ first (λ v. eq_name v.name x) (cond b (result_in t w ∷ []) [])
  unfolding own_in
  own-past l =
      first-none (λ v. eq_name v.name x) (variable_at t w) (cond b (result_in t w ∷ []) []) from n (omega (arith, own-index))

  pub own-result :
      n ≤ index (is_entry any_owner x) (run (entry_at t w) (variables_first + from) n) → b ≡ true → eq_name (bytes "result") x ≡ true →
      Looked t w (own_in t w from n b) x result_variable
  unfolding first
  own-result l s e =
      looked-some t w (own_in t w from n b) x (result_in t w) result_variable (own-past l ∙ rw (s, e)) refl (omega arith) refl

  pub own-other :
      n ≤ index (is_entry any_owner x) (run (entry_at t w) (variables_first + from) n) → b ≡ true → eq_name (bytes "result") x ≡ false →
      Looked t w (own_in t w from n b) x 15
  unfolding first
  own-other l s e = looked-none t w (own_in t w from n b) x (own-past l ∙ rw (s, e))

  pub own-none :
      n ≤ index (is_entry any_owner x) (run (entry_at t w) (variables_first + from) n) → b ≡ false →
      Looked t w (own_in t w from n b) x 15
  unfolding first
  own-none l s = looked-none t w (own_in t w from n b) x (own-past l ∙ rw s)

pub looked-type :
    (t w : List ℕ) (vs : List Variable) (x : Name) (v : ℕ) (s : Span) → Looked t w vs x v → s ≡ type_of w v → name_in t s ≡ variable_type vs x
looked-type t w vs x v s h p = ap (name_in t) p ∙ sym h.type

-- NEW NAMES
not-below : (i n : ℕ) → i ≤ n → eqb i n ≡ not (ltb i n)
not-below i n l = go (ltb i n) refl
  where
    go : (q : Bool) → ltb i n ≡ q → eqb i n ≡ not q
    go true e = ne_eqb i n (λ z. omega (arith, ltb-true i n e))
    go false e = eq-eqb i n (omega (arith, ltb-false i n e))

module _ (t w : List ℕ) where
  pub new-among :
      (from n : ℕ) (x : Name) (i : ℕ) → i ≡ index (is_entry any_owner x) (run (entry_at t w) from n) → i ≤ n →
      eqb i n ≡ not (any (eq_name x) (names_from t w from n))
  unfolding names_from
  new-among from n x i e l =
      not-below i n l
      ∙ ap not
      (ap (λ k. ltb k n)
      (e ∙ index_same (is_entry any_owner x) (eq_name x) (entry_at t w) (λ j. (entry_at t w j).name) from from n (λ k l. entry-any x _ ∙ name-comm _ x))
      ∙ sym (any-rows (eq_name x) (λ j. (entry_at t w j).name) from n))

  own-names : (v n : ℕ) → map (λ v. v.name) (run (variable_at t w) v n) ≡ names_from t w (variables_first + v) n
  unfolding names_from run variable_at
  own-names v zero = refl
  own-names v (suc n) =
      ap (◌∷◌ (entry_at t w (variables_first + v)).name)
      (own-names (suc v) n ∙ ap (λ i. run (λ j. (entry_at t w j).name) i n) (let e : variables_first + suc v ≡ suc (variables_first + v) = omega arith in e))

  -- a reserved name is none; another is not `this`
  with-this : (x : Name) (l : List Name) → is_new x l ≡ is_new x (bytes "this" ∷ l)
  unfolding is_new reserved any is
  with-this x l =
      go (eq_name (bytes "int") x) (eq_name (bytes "null") x) (eq_name (bytes "this") x) (eq_name (bytes "result") x) (any (eq_name x) l)
      ∙ ap (λ b. not (reserved x) && not (b || any (eq_name x) l)) (name-comm (bytes "this") x)
    where
      go : (i n h r a : Bool) → (not (i || (n || (h || r))) && not a) ≡ (not (i || (n || (h || r))) && not (h || a))
      go true n h r a = refl
      go false true h r a = refl
      go false false true r a = refl
      go false false false r a = refl

  pub new-in-method :
      (c : Names) (x : Name) → c.method ≡ true →
      is_new x (names_from t w (variables_first + 1) (c.locals + 1)) ≡ is_new x (map (λ v. v.name) (block_in t w c).variables)
  unfolding block_in own_variables
  new-in-method c x e =
      rw e
      (ap (λ n. is_new x (names_from t w (variables_first + 1) n)) (add-one c.locals)
      ∙ (ap (is_new x) (sym (own-names 1 (suc c.locals))) ∙ with-this x _))

  pub new-in-main :
      (c : Names) (x : Name) → c.method ≡ false →
      is_new x (names_from t w (variables_first + 2) c.locals) ≡ is_new x (map (λ v. v.name) (block_in t w c).variables)
  unfolding block_in own_variables
  new-in-main c x e = rw e (ap (is_new x) (sym (own-names 2 c.locals)))
