-- The rules, one after the other.
use mathlib.Core.Path.{◌≡◌, refl, sym, ap, ap₂, ◌∙◌, subst}
use mathlib.Core.Bool.{Bool, true, false, cond}
use mathlib.Core.List.{List, [], ◌∷◌, map}
use Rattle.std.specs.Prelude.{Ok, Err}
use mathlib.Core.Option.{Option, none, some}
use Prim.Native.Nat.{ℕ, suc, ◌+◌, ◌*◌, ◌-◌, ◌≤◌, ◌<◌}
use native.Mathlib.Omega.{arith}
use lib.Dec.{eqb}
use lib.ListN.{get_or, set}
use borrow.Author.Tests.{eq-eqb, ne_eqb, eqb-true, lt-ltb}
use Rattle.rules.specs.Base.{Try, ok, no, ◌>>=◌, ◌>>◌, check, or_else}
use Rattle.rules.specs.Limits.{most_permissions}
use Rattle.rules.specs.Answers.{Refusal, no_permission}
use Rattle.rules.specs.Syntax.{Formula, Atom, same, eq, ne, num, null, var, path, acc, own, cmp}
use Rattle.rules.specs.State as Rules
use Rattle.rules.specs.State.{Permission, Split, entry, equal_in, giving, split, path_of, holds_in}
use Rattle.rules.specs.Rules.{End, actual, subst_term, subst_atom, add_equal, set_rule, assign_rule, add_fields, initial, add_initial, new_rule, call_rule, return_rule, show_end, join_rule}
use Rattle.tables.specs.Decode.{run, atoms_from, fields_from, class_at, field_count_at, field_name_at, byte_at, class_place, method_at, requires_at, ensures_at, method_place, half_at}
use Rattle.tables.specs.Decode as Decode
use Rattle.check_equality.specs.Keys.{term_of}
use Rattle.check_equality.specs.Layout.{acc_kind, chain_kind}
use Rattle.check_equality.specs.Links.{rel_of}
use Rattle.check_equality.proofs.Keys.{same_key, of-null}
use Rattle.check_entailment.specs.declared.Refusal as Declared
use Rattle.check_entailment.specs.declared.Refusal.TheVariants.{NotShown}
use Rattle.check_state.specs.States.{Wf, state_of, entries, variable_at, field_at, kind_at, permit_of, permission_at, permissions_of, is_path_at}
use Rattle.check_state.specs.Questions.{FirstPlace, Bytes, entry_test}
use Rattle.check_entries.specs.Entries.{entry_left, left_of}
use Rattle.check_forgetting.specs.Changes.{Becomes, without_path}
use Rattle.check_entailment.specs.Answers.{Answer, refusal_of, answered, most_serving, Adds}
use Rattle.check_entailment.proofs.Splits.{left-none, left-first}
use Rattle.check_entailment.proofs.Showing.{serving}
use Rattle.check_formulas.specs.Formulas.{formula, Shows}
use Rattle.check_formulas.proofs.Atoms.{start_fits, start_left}
use Rattle.check_statements.specs.Statements.{assign_term, call_shown, object_shown, initial_of, Says, Asserts, end_of, release_rule}

-- ONE AFTER THE OTHER
pub adds_same : (t u : Try Refusal Rules.State) (k : Answer) (key b : List ℕ) → t ≡ u → Adds t k key b → Adds u k key b
adds_same t u k key b e A = record { wf = A.wf; same = A.same ∙ e }

module _ {A B : Type 0} (t : Try Refusal A) (a : A) (f : A → Try Refusal B) where
  pub after-done : answered (Ok tt) a ≡ t → (t >>= f) ≡ f a
  unfolding answered ◌>>=◌
  after-done S = ap (λ (u : Try Refusal A). u >>= f) (sym S)

  pub after-refused : (r : Declared.Refusal) → answered (Err r) a ≡ t → (c : B) → (t >>= f) ≡ answered (Err r) c
  unfolding answered ◌>>=◌
  after-refused r S c = ap (λ (u : Try Refusal A). u >>= f) (sym S)

module _ (t : Try Refusal Rules.State) (key b : List ℕ) (f : Rules.State → Try Refusal Rules.State) where
  pub adds-refused : (r : Declared.Refusal) → Adds t (Err r) key b → Adds (t >>= f) (Err r) key b
  adds-refused r A = record { wf = A.wf; same = sym (after-refused t (state_of key b) f r A.same (state_of key b)) }

  pub adds_on : Adds t (Ok tt) key b → (k : Answer) (key' b' : List ℕ) → Adds (f (state_of key b)) k key' b' → Adds (t >>= f) k key' b'
  adds_on A k key' b' Q = adds_same _ _ k key' b' (sym (after-done t (state_of key b) f A.same)) Q

pub adds-ok : (key b : List ℕ) → Wf key b → Adds (ok (state_of key b)) (Ok tt) key b
unfolding answered
adds-ok key b w = record { wf = w; same = refl }

pub adds-no : (k : Answer) (key b : List ℕ) → Wf key b → (t : Try Refusal Rules.State) → t ≡ answered k (state_of key b) → Adds t k key b
adds-no k key b w t e = record { wf = w; same = sym e }

-- SET
module _ (key b : List ℕ) (w : Wf key b) (kinds : List ℕ) (B : Bytes (kind_at b) most_permissions kinds) (x f y i : ℕ)
    (F : FirstPlace (entry_test b kinds acc_kind acc_kind (var x) f (equal_in (state_of key b))) (entries b) i) where
  kind-at : (j : ℕ) → j < entries b → get_or kinds j 0 ≡ kind_at b j
  kind-at j h = B.at j (omega (arith, w.fit))

  most : (j : ℕ) → j < entries b → get_or kinds j 0 ≤ chain_kind
  most j h = omega (arith, kind-at j h, (w.kinds j h).1)

  all : left_of b kinds ≡ permissions_of b
  all = start_left key b kinds w B

  abbrev given : List Permission → Option Split
  given l = split (giving (equal_in (state_of key b)) acc (var x) f) l

  pub set-refused : entries b ≤ i → set_rule x f y (state_of key b) ≡ no no_permission
  unfolding set_rule or_else ◌>>=◌ permit_of most_serving
  set-refused h =
      let e : given (permissions_of b) ≡ none =
      subst (λ (l : List Permission). given l ≡ none) all
      (left-none b kinds (equal_in (state_of key b)) acc_kind (var x) f (entries b) i (omega arith, omega arith) most F h) in
      rw e

  shown_by_lem : i < entries b → (c : Split) × (given (permissions_of b) ≡ some c) × (c.taken ≡ permission_at b i)
  unfolding permit_of most_serving
  shown_by_lem h =
      let c : Split = record { taken = permission_at b i; left = entry_left (get_or kinds i 0 - acc_kind) (variable_at b i) (field_at b i); list = left_of b (set kinds i (get_or kinds i 0 - acc_kind)) } in
      let e : given (left_of b kinds) ≡ some c =
      left-first b kinds (equal_in (state_of key b)) acc_kind (var x) f (entries b) i (omega arith, omega arith) most F h (omega (arith, B.size, w.fit))
      ∙ rw (kind-at i h) in
      (c, subst (λ (l : List Permission). given l ≡ some c) all e, refl)

  -- an `acc` is a listed path
  pub set-path : i < entries b → is_path_at b i ≡ true
  unfolding most_serving
  set-path h =
      let fit = serving key b w kinds (start_fits key b kinds w B) acc_kind (var x) f i (omega arith, omega arith) F h in
      lt-ltb (kind_at b i) chain_kind (omega (arith, kind-at i h, fit.1))

  pub set_found_lem : i < entries b → set_rule x f y (state_of key b) ≡ Rules.add_fact eq (path (variable_at b i) (field_at b i)) (var y) (without_path key b i)
  unfolding set_rule or_else ◌>>=◌ path_of
  set_found_lem h = let (c, e, d) = shown_by_lem h in rw (e, d)

-- LET
pub equal-some :
    (x t v : ℕ) (s : Rules.State) (r : Answer) (key b : List ℕ) → term_of v ≡ var x →
    Adds (Rules.add_fact (rel_of false) (term_of v) (term_of t) s) r key b → Adds (add_equal x (some (term_of t)) s) r key b
unfolding add_equal rel_of
equal-some x t v s r key b d A = rw (← d) A

pub assign-same : (x k v : ℕ) (s : Rules.State) → term_of v ≡ var x → k ≡ v → assign_term x (term_of k) s ≡ ok s
unfolding assign_term
assign-same x k v s d e = rw (← d, same_key k v, eq-eqb k v e)

pub assign_other : (x k v : ℕ) (s : Rules.State) → term_of v ≡ var x → (k ≡ v → ⊥) → assign_term x (term_of k) s ≡ add_equal x (Rules.removed_term x (Rules.stand_in s x) s (term_of k)) (Rules.remove_to x (Rules.stand_in s x) s)
unfolding assign_term
assign_other x k v s d n = let e : same (term_of k) (var x) ≡ false = rw (← d) (same_key k v ∙ ne_eqb k v n) in rw e

pub assign-found : (x : ℕ) (e t : Rules.Term) (s : Rules.State) → Rules.resolve (equal_in s) s.permissions e ≡ ok t → assign_rule x e s ≡ assign_term x t s
unfolding assign_rule assign_term ◌>>=◌
assign-found x e t s d = rw d

pub assign-lost :
    (x : ℕ) (e : Rules.Term) (key b : List ℕ) → Wf key b → (r : Declared.Refusal) → no (refusal_of r) ≡ Rules.resolve (equal_in (state_of key b)) (permissions_of b) e →
    Adds (assign_rule x e (state_of key b)) (Err r) key b
unfolding assign_rule ◌>>=◌ answered
assign-lost x e key b w r d = adds-no (Err r) key b w _ (rw (← d))

-- NEW
module _ (w : List ℕ) (c : ℕ) where
  pub fields-more : (n j : ℕ) → j < n → fields_from w c j (n - j) ≡ Decode.field_at w c j ∷ fields_from w c (j + 1) (n - (j + 1))
  unfolding run
  fields-more n j h =
      let e : n - j ≡ suc (n - (j + 1)) = omega arith in
      let d : suc j ≡ j + 1 = omega arith in
      ap (λ (k : ℕ). fields_from w c j k) e ∙ ap (λ (k : ℕ). Decode.field_at w c j ∷ fields_from w c k (n - (j + 1))) d

  pub fields-end : (n j : ℕ) → n ≤ j → fields_from w c j (n - j) ≡ []
  unfolding run
  fields-end n j h = let e : n - j ≡ 0 = omega arith in ap (λ (k : ℕ). fields_from w c j k) e

  module _ (x : ℕ) (n j : ℕ) (h : j < n) (s : Rules.State) where
    pub permission-more : add_fields x (fields_from w c j (n - j)) s ≡ (Rules.add_permission (entry acc x (field_name_at w c j)) s >>= λ t. add_fields x (fields_from w c (j + 1) (n - (j + 1))) t)
    unfolding add_fields Decode.field_at
    permission-more = rw (fields-more n j h)

    pub initial-more : add_initial x (fields_from w c j (n - j)) s ≡ (Rules.add_fact eq (path x (field_name_at w c j)) (initial_of (byte_at w (class_place c + 2 + j * 2))) s >>= λ t. add_initial x (fields_from w c (j + 1) (n - (j + 1))) t)
    unfolding add_initial Decode.field_at initial initial_of
    initial-more = rw (fields-more n j h)

  pub permission-end : (x n j : ℕ) → n ≤ j → (s : Rules.State) → add_fields x (fields_from w c j (n - j)) s ≡ ok s
  unfolding add_fields
  permission-end x n j h s = rw (fields-end n j h)

  pub initial-end : (x n j : ℕ) → n ≤ j → (s : Rules.State) → add_initial x (fields_from w c j (n - j)) s ≡ ok s
  unfolding add_initial
  initial-end x n j h s = rw (fields-end n j h)

pub new_by : (w : List ℕ) (x c n : ℕ) (s : Rules.State) → n ≡ field_count_at w c → (add_fields x (fields_from w c 0 n) (Rules.remove x s) >>= λ s. Rules.add_fact ne (var x) null s >>= λ s. add_initial x (fields_from w c 0 n) s) ≡ new_rule x (class_at w c) s
unfolding new_rule class_at
new_by w x c n s e = rw e

-- FORMULAS AS THEY STAND
itself : (v : ℕ) → actual 0 1 14 v ≡ v
unfolding actual
itself v = go (eqb v 0) (eqb v 1) (eqb v 14) refl refl refl
  where
    go : (a b c : Bool) → eqb v 0 ≡ a → eqb v 1 ≡ b → eqb v 14 ≡ c → cond a 0 (cond b 1 (cond c 14 v)) ≡ v
    go true b c e d f = sym (eqb-true v 0 e)
    go false true c e d f = sym (eqb-true v 1 d)
    go false false true e d f = sym (eqb-true v 14 f)
    go false false false e d f = refl

itself-term : (t : Rules.Term) → subst_term (actual 0 1 14) t ≡ t
unfolding subst_term
itself-term (num n) = refl
itself-term null = refl
itself-term (var v) = ap var (itself v)
itself-term (path v f) = ap (λ (u : ℕ). path u f) (itself v)

itself-atom : (a : Atom ℕ) → subst_atom (actual 0 1 14) a ≡ a
unfolding subst_atom
itself-atom (own k v f) = ap (λ (u : ℕ). own k u f) (itself v)
itself-atom (cmp n a b) = ap₂ (λ (t u : Rules.Term). cmp n t u) (itself-term a) (itself-term b)

itself-all : (φ : Formula ℕ) → map (subst_atom (actual 0 1 14)) φ ≡ φ
itself-all [] = refl
itself-all (a ∷ φ) = ap₂ (λ (b : Atom ℕ) (ψ : Formula ℕ). b ∷ ψ) (itself-atom a) (itself-all φ)

pub plain : (w : List ℕ) (a n : ℕ) → formula w 0 1 14 a n ≡ atoms_from w a n
unfolding formula
plain w a n = itself-all (atoms_from w a n)

pub plain-term : (t : Rules.Term) → subst_term (actual 0 1 14) t ≡ t
plain-term t = itself-term t

-- ASSERT, RELEASE
module _ {A B : Type 0} (k : Answer) (a : A) (f : A → Try Refusal B) where
  pub bind-answered : (b : B) → f a ≡ ok b → (answered k a >>= f) ≡ answered k b
  unfolding answered ◌>>=◌
  bind-answered b e = go k
    where
      go : (k : Answer) → (answered k a >>= f) ≡ answered k b
      go (Ok u) = e
      go (Err r) = refl

pub assert-law : (key b : List ℕ) (φ : Formula ℕ) (k : Answer) (left : List ℕ) → Shows key b φ k left → Asserts φ (state_of key b) k
unfolding show_end
assert-law key b φ k left S = sym (ap (λ (t : Try Refusal (List Permission)). t >>= λ r. ok tt) (sym S) ∙ bind-answered k (left_of b left) (λ r. ok tt) tt refl)

-- `assert` leaves the state
pub asserted : (φ : Formula ℕ) (key b : List ℕ) (k : Answer) → Wf key b → Asserts φ (state_of key b) k → Adds (Rules.show (state_of key b) φ >>= λ r. ok (state_of key b)) k key b
unfolding show_end ◌>>=◌
asserted φ key b k w e = record { wf = w; same = go (Rules.show (state_of key b) φ) e }
  where
    go : (t : Try Refusal (List Permission)) → Says (t >>= λ r. ok tt) k → answered k (state_of key b) ≡ (t >>= λ r. ok (state_of key b))
    go (ok r) e = sym (bind-answered k tt (λ u. ok (state_of key b)) (state_of key b) refl) ∙ ap (λ (u : Try Refusal (Unit {0})). u >>= λ v. ok (state_of key b)) e
    go (no f) e = sym (bind-answered k tt (λ u. ok (state_of key b)) (state_of key b) refl) ∙ ap (λ (u : Try Refusal (Unit {0})). u >>= λ v. ok (state_of key b)) e

module _ (key b : List ℕ) (φ : Formula ℕ) (left : List ℕ) where
  pub release-refused : (r : Declared.Refusal) → Shows key b φ (Err r) left → Wf key b → Adds (release_rule φ (state_of key b)) (Err r) key b
  unfolding release_rule
  release-refused r S w = adds-no (Err r) key b w _ (after-refused _ (left_of b left) _ r S (state_of key b))

  pub release-law :
      (key' b' : List ℕ) → Shows key b φ (Ok tt) left → Becomes (Rules.remainder (state_of key b) (left_of b left)) key' b' →
      Adds (release_rule φ (state_of key b)) (Ok tt) key' b'
  unfolding release_rule
  release-law key' b' S R = adds_same _ _ (Ok tt) key' b' (sym (after-done _ (left_of b left) _ S ∙ ap ok (sym R.same))) (adds-ok key' b' R.wf)

-- CALL
module _ (w : List ℕ) (x y m z : ℕ) (key b : List ℕ) (a n : ℕ) (ea : a ≡ half_at w (method_place m)) (en : n ≡ byte_at w (method_place m + 2)) (left : List ℕ) where
  pub call-refused : (r : Declared.Refusal) → Shows key b (formula w y z x a n) (Err r) left → Wf key b → Adds (call_shown x y (method_at w m) z (state_of key b)) (Err r) key b
  unfolding call_shown method_at requires_at formula
  call-refused r S W = adds-no (Err r) key b W _ (after-refused _ (left_of b left) _ r (S ∙ rw (ea, en)) (state_of key b))

  pub call-done :
      Shows key b (formula w y z x a n) (Ok tt) left → (key₁ b₁ key₂ b₂ : List ℕ) → Becomes (Rules.remainder (state_of key b) (left_of b left)) key₁ b₁ →
      Becomes (Rules.remove x (state_of key₁ b₁)) key₂ b₂ → (c o : ℕ) → c ≡ half_at w (method_place m + 4) → o ≡ byte_at w (method_place m + 3) →
      (r : Answer) (key₃ b₃ : List ℕ) → Adds (Rules.add (formula w y z x c o) (state_of key₂ b₂)) r key₃ b₃ →
      Adds (call_shown x y (method_at w m) z (state_of key b)) r key₃ b₃
  unfolding call_shown method_at requires_at ensures_at formula
  call-done S key₁ b₁ key₂ b₂ R Q c o ec eo r key₃ b₃ A =
      adds_same _ _ r key₃ b₃ (sym (after-done _ (left_of b left) _ (S ∙ rw (ea, en)) ∙ rw (← ec, ← eo, ← R.same, ← Q.same))) A

-- is y ≠ null shown?
module _ (y v : ℕ) (s : Rules.State) (d : term_of v ≡ var y) where
  object-tested : holds_in (equal_in s) s (rel_of true) (term_of v) (term_of 256) ≡ holds_in (equal_in s) s ne (var y) null
  unfolding rel_of
  object-tested = rw (d, of-null)

  pub object-yes : true ≡ holds_in (equal_in s) s (rel_of true) (term_of v) (term_of 256) → Says (object_shown y s) (Ok tt)
  unfolding object_shown check answered
  object-yes e = rw (← (e ∙ object-tested))

  pub object-no : false ≡ holds_in (equal_in s) s (rel_of true) (term_of v) (term_of 256) → Says (object_shown y s) (Err NotShown)
  unfolding object_shown check answered refusal_of
  object-no e = rw (← (e ∙ object-tested))

-- the rules that ask so
module _ (y : ℕ) (s : Rules.State) where
  pub null-stops : {A : Type 0} (t : Try Refusal A) (r : Declared.Refusal) → Says (object_shown y s) (Err r) → (c : A) → (object_shown y s >> t) ≡ answered (Err r) c
  unfolding answered ◌>>◌
  null-stops t r S c = rw (← S)

  pub object-passes : {A : Type 0} (t : Try Refusal A) → Says (object_shown y s) (Ok tt) → (object_shown y s >> t) ≡ t
  unfolding answered ◌>>◌
  object-passes t S = rw (← S)

pub call-null :
    (w : List ℕ) (x y m z : ℕ) (key b : List ℕ) → Wf key b → (r : Declared.Refusal) → Says (object_shown y (state_of key b)) (Err r) →
    Adds (call_rule x y (method_at w m) z (state_of key b)) (Err r) key b
unfolding call_rule object_shown
call-null w x y m z key b W r S = adds-no (Err r) key b W _ (null-stops y (state_of key b) _ r S (state_of key b))

pub call-object :
    (w : List ℕ) (x y m z : ℕ) (s : Rules.State) → Says (object_shown y s) (Ok tt) → call_shown x y (method_at w m) z s ≡ call_rule x y (method_at w m) z s
unfolding call_rule call_shown object_shown
call-object w x y m z s S = sym (object-passes y s _ S)

pub new-law :
    (w : List ℕ) (x c n : ℕ) (s t : Rules.State) → n ≡ field_count_at w c → t ≡ Rules.remove x s →
    (add_fields x (fields_from w c 0 n) t >>= λ s. Rules.add_fact ne (var x) null s >>= λ s. add_initial x (fields_from w c 0 n) s) ≡ new_rule x (class_at w c) s
new-law w x c n s t e d =
    ap (λ (u : Rules.State). add_fields x (fields_from w c 0 n) u >>= λ s. Rules.add_fact ne (var x) null s >>= λ s. add_initial x (fields_from w c 0 n) s) d
    ∙ new_by w x c n s e

pub object-fact : (v x : ℕ) (s : Rules.State) → term_of v ≡ var x → Rules.add_fact (rel_of true) (term_of v) (term_of 256) s ≡ Rules.add_fact ne (var x) null s
unfolding rel_of
object-fact v x s e = rw (e, of-null)

pub field-fact :
    (p x f i : ℕ) (t : Rules.Term) (s : Rules.State) → term_of p ≡ path x f → term_of i ≡ t →
    Rules.add_fact (rel_of false) (term_of p) (term_of i) s ≡ Rules.add_fact eq (path x f) t s
unfolding rel_of
field-fact p x f i t s e d = rw (e, d)

-- ENDS
module _ (φ : Formula ℕ) (s : Rules.State) (returned : Bool) where
  pub end-returned : returned ≡ true → Says (show_end φ (end_of returned s)) (Ok tt)
  unfolding show_end answered
  end-returned e = rw e

-- RETURN
module _ (x : ℕ) (φ : Formula ℕ) (s : Rules.State) (key b : List ℕ) where
  pub return_refused : (r : Declared.Refusal) → Adds (assign_rule 14 (var x) s) (Err r) key b → Says (return_rule x φ s) (Err r)
  unfolding return_rule
  return_refused r A = sym (after-refused _ (state_of key b) _ r A.same tt)

  pub return-shown : Adds (assign_rule 14 (var x) s) (Ok tt) key b → (l : Answer) → Asserts φ (state_of key b) l → Says (return_rule x φ s) l
  unfolding return_rule show_end
  return-shown A l S = S ∙ sym (after-done _ (state_of key b) _ A.same)

-- JOIN
module _ (φ : Formula ℕ) (e₁ e₂ : End) where
  pub join_first : (r : Declared.Refusal) → Says (show_end φ e₁) (Err r) → (key b : List ℕ) → Wf key b → Adds (join_rule φ e₁ e₂) (Err r) key b
  unfolding join_rule
  join_first r S key b w = adds-no (Err r) key b w _ (after-refused _ tt _ r S (state_of key b))

  module _ (S : Says (show_end φ e₁) (Ok tt)) where
    pub join-second : (r : Declared.Refusal) → Says (show_end φ e₂) (Err r) → (key b : List ℕ) → Wf key b → Adds (join_rule φ e₁ e₂) (Err r) key b
    unfolding join_rule
    join-second r Q key b w = adds-no (Err r) key b w _ (after-done _ tt _ S ∙ after-refused _ tt _ r Q (state_of key b))

    pub join-done : Says (show_end φ e₂) (Ok tt) → (m : Answer) (key b : List ℕ) → Adds (Rules.add φ Rules.empty) m key b → Adds (join_rule φ e₁ e₂) m key b
    unfolding join_rule
    join-done Q m key b A = adds_same _ _ m key b (sym (after-done _ tt _ S ∙ after-done _ tt _ Q)) A

pub empty-add : (w : List ℕ) (a n : ℕ) (s : Rules.State) → s ≡ Rules.empty → Rules.add (formula w 0 1 14 a n) s ≡ Rules.add (atoms_from w a n) Rules.empty
empty-add w a n s d = ap₂ (λ (φ : Formula ℕ) (s : Rules.State). Rules.add φ s) (plain w a n) d
