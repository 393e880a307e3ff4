-- `if` and `loop`: a relation and its opposite, added to one state each.
use mathlib.Core.Path.{◌≡◌, refl, sym, ap, ap₂, ◌∙◌}
use mathlib.Core.Bool.{Bool, true, false, not}
use mathlib.Core.List.{List, [], ◌∷◌, ◌++◌}
use Rattle.std.specs.Prelude.{Ok, Err}
use mathlib.Core.Option.{some}
use Prim.Native.Nat.{ℕ}
use Rattle.rules.specs.Base.{Try, ok, no, ◌>>=◌, ◌>>◌, check}
use Rattle.rules.specs.Answers.{Refusal, state_full}
use Rattle.rules.specs.Syntax.{Formula, Rel, cmp}
use Rattle.rules.specs.State as Rules
use Rattle.rules.specs.State.{Permission}
use Rattle.rules.specs.Rules.{End, opposite, if_rule, show_end, loop_rule}
use Rattle.rules.proofs.Tries.{no_ok}
use Rattle.check_equality.specs.Links.{rel_of}
use Rattle.check_entailment.specs.declared.Refusal as Declared
use Rattle.check_state.specs.States.{Wf, state_of}
use Rattle.check_entailment.specs.Answers.{Answer, answered, Adds}
use Rattle.check_formulas.proofs.Atoms.{bind-bind}
use Rattle.check_statements.specs.Statements.{Parts, Says, only_known}
use Rattle.check_statements.proofs.Ruled.{adds_same, adds-refused, adds_on, adds-no, after-done, after-refused, bind-answered}

-- a relation by what its sides are
pub sides-add :
    (s : Rules.State) (n : Rel) (l r l' r' : Rules.Term) → l ≡ l' → r ≡ r' → (k : Answer) (key' b' : List ℕ) →
    Adds (Rules.add (cmp n l r ∷ []) s) k key' b' → Adds (Rules.add (cmp n l' r' ∷ []) s) k key' b'
sides-add s n l r l' r' e d k key' b' A = adds_same _ _ k key' b' (ap₂ (λ (t u : Rules.Term). Rules.add (cmp n t u ∷ []) s) e d) A

-- IF

-- two of the same test: where one passes, so does the other
module _ {A B : Type 0} (r : Refusal) (f g : A → A → B) where
  abbrev tried : Bool → (A → A → B) → A → A → Try Refusal B
  tried c f t u = check c r >> ok (f t u)

  abbrev both : Try Refusal A → Try Refusal A → Bool → Try Refusal (B × B)
  both a b c = a >>= λ t. b >>= λ u. tried c f t u >>= λ p. tried c g t u >>= λ q. ok (p, q)

  first_of : (a b : Try Refusal A) (c : Bool) → (both a b c >>= λ p. ok p.0) ≡ (a >>= λ t. b >>= λ u. tried c f t u >>= λ p. ok p)
  unfolding ◌>>=◌ ◌>>◌ check
  first_of (ok t) (ok u) true = refl
  first_of (ok t) (ok u) false = refl
  first_of (ok t) (no e) c = refl
  first_of (no e) b c = refl

  second-of : (a b : Try Refusal A) (c : Bool) → (both a b c >>= λ p. ok p.1) ≡ (a >>= λ t. b >>= λ u. tried c g t u >>= λ p. ok p)
  unfolding ◌>>=◌ ◌>>◌ check
  second-of (ok t) (ok u) true = refl
  second-of (ok t) (ok u) false = refl
  second-of (ok t) (no e) c = refl
  second-of (no e) b c = refl

module _ (n : Rel) (a b : Rules.Term) (s : Rules.State) where
  abbrev with_fact : Rel → Rules.Term → Rules.Term → Rules.State
  with_fact n t u =
      record { permissions = s.permissions; facts = s.facts ++ (record { rel = n; left = t; right = u } ∷ []) }

  if-first : (if_rule n a b s >>= λ c. ok c.0) ≡ Rules.add (cmp n a b ∷ []) s
  unfolding if_rule Rules.add Rules.add_fact
  if-first = first_of state_full (with_fact n) (with_fact (opposite n)) _ _ _

  if-second : (if_rule n a b s >>= λ c. ok c.1) ≡ Rules.add (cmp (opposite n) a b ∷ []) s
  unfolding if_rule Rules.add Rules.add_fact
  if-second = second-of state_full (with_fact n) (with_fact (opposite n)) _ _ _

-- a pair by its two sides
module _ {A B : Type 0} (t : Try Refusal (A × B)) (x : A) where
  pair-refused : (r : Declared.Refusal) → answered (Err r) x ≡ (t >>= λ p. ok p.0) → (z : A × B) → answered (Err r) z ≡ t
  unfolding answered ◌>>=◌
  pair-refused r e z = ap (λ (u : Try Refusal A). u >>= λ y. t) e ∙ go t
    where
      go : (t : Try Refusal (A × B)) → ((t >>= λ p. ok p.0) >>= λ y. t) ≡ t
      go (ok p) = refl
      go (no r) = refl

  pair-done : answered (Ok tt) x ≡ (t >>= λ p. ok p.0) → (l : Answer) (y : B) → answered l y ≡ (t >>= λ p. ok p.1) → answered l (x, y) ≡ t
  unfolding answered ◌>>=◌
  pair-done e l y f =
      sym (bind-answered l y (λ y. ok (x, y)) (x, y) refl) ∙ ap (λ (u : Try Refusal B). u >>= λ y. ok (x, y)) f ∙ go t (ap (λ (u : Try Refusal A). u >>= ok) e)
    where
      go : (t : Try Refusal (A × B)) → ok x ≡ ((t >>= λ p. ok p.0) >>= ok) → ((t >>= λ p. ok p.1) >>= λ y. ok (x, y)) ≡ t
      go (ok p) g = ap (λ (u : Try Refusal A). u >>= λ x. ok (x, p.1)) g
      go (no r) g = refl

module _ (n : Rel) (a c : Rules.Term) (s : Rules.State) (key b key2 b2 : List ℕ) where
  pub if-refused : (r : Declared.Refusal) → Adds (Rules.add (cmp n a c ∷ []) s) (Err r) key b → Wf key2 b2 → Parts (if_rule n a c s) (Err r) key b key2 b2
  if-refused r A w =
      record { first = A.wf; second = w; same = pair-refused _ _ r (A.same ∙ sym (if-first n a c s)) (state_of key b, state_of key2 b2) }

  pub if-done :
      Adds (Rules.add (cmp n a c ∷ []) s) (Ok tt) key b → (m : Rel) → m ≡ opposite n → (s₂ : Rules.State) → s₂ ≡ s → (l : Answer) →
      Adds (Rules.add (cmp m a c ∷ []) s₂) l key2 b2 → Parts (if_rule n a c s) l key b key2 b2
  if-done A m em s₂ es l C =
      record {
        first = A.wf;
        second = C.wf;
        same =
            pair-done _ _ (A.same ∙ sym (if-first n a c s)) l _
            (C.same ∙ ap₂ (λ (m : Rel) (s : Rules.State). Rules.add (cmp m a c ∷ []) s) em es ∙ sym (if-second n a c s));
      }

pub other : (c : Bool) → rel_of (not c) ≡ opposite (rel_of c)
unfolding opposite rel_of
other true = refl
other false = refl

-- LOOP
module _ (n : Rel) (l r : Rules.Term) (φ : Formula ℕ) (e : End) where
  pub invariant-unshown : (q : Declared.Refusal) → Says (show_end φ e) (Err q) → (key b : List ℕ) → Wf key b → Adds (only_known n l r φ e) (Err q) key b
  unfolding only_known
  invariant-unshown q S key b w = adds-no (Err q) key b w _ (after-refused _ tt _ q S (state_of key b))

  module _ (S : Says (show_end φ e) (Ok tt)) (key b : List ℕ) where
    pub invariant-refused : (q : Declared.Refusal) → Adds (Rules.add φ Rules.empty) (Err q) key b → Adds (only_known n l r φ e) (Err q) key b
    unfolding only_known
    invariant-refused q A = adds_same _ _ (Err q) key b (sym (after-done _ tt _ S)) (adds-refused _ key b _ q A)

    pub invariant-known :
        Adds (Rules.add φ Rules.empty) (Ok tt) key b → (m : Answer) (key' b' : List ℕ) → Adds (Rules.add (cmp n l r ∷ []) (state_of key b)) m key' b' →
        Adds (only_known n l r φ e) m key' b'
    unfolding only_known
    invariant-known A m key' b' C = adds_same _ _ m key' b' (sym (after-done _ tt _ S)) (adds_on _ key b _ A m key' b' C)

-- the two states of a loop: one at its `loop`, and where there is that, the other at its `again`, whatever the body leaves
module _ (n : Rel) (l r : Rules.Term) (φ : Formula ℕ) where
  abbrev states : Try Refusal (Rules.State × Rules.State)
  states = Rules.add φ Rules.empty >>= λ s. if_rule n l r s

  known-first : (e : End) → only_known n l r φ e ≡ (show_end φ e >>= λ u. states >>= λ c. ok c.0)
  unfolding only_known
  known-first e =
      ap (λ (t : Try Refusal Rules.State). show_end φ e >>= λ u. t)
      (bind-bind (Rules.add φ Rules.empty) (if_rule n l r) (λ c. ok c.0) (λ s. Rules.add (cmp n l r ∷ []) s) (λ s. sym (if-first n l r s)))

  known-second : (e : End) → only_known (opposite n) l r φ e ≡ (show_end φ e >>= λ u. states >>= λ c. ok c.1)
  unfolding only_known
  known-second e =
      ap (λ (t : Try Refusal Rules.State). show_end φ e >>= λ u. t)
      (bind-bind (Rules.add φ Rules.empty) (if_rule n l r) (λ c. ok c.1) (λ s. Rules.add (cmp (opposite n) l r ∷ []) s) (λ s. sym (if-second n l r s)))

  pub loop-states :
      (s : Rules.State) (k : Answer) (x : Rules.State) → answered k x ≡ only_known n l r φ (some s) →
      (after : Rules.State) × (answered k (x, after) ≡ loop_rule n l r φ s)
      × (k ≡ Ok tt → (e : End) → only_known (opposite n) l r φ e ≡ (show_end φ e >>= λ u. ok after))
  unfolding loop_rule show_end ◌>>=◌ answered
  loop-states s k x e = go states refl (e ∙ known-first (some s))
    where
      paired : (f : Rules.State → Rules.State × Rules.State) (t : Try Refusal Rules.State) → answered k x ≡ t → answered k (f x) ≡ (t >>= λ y. ok (f y))
      paired f t e = sym (bind-answered k x (λ y. ok (f y)) (f x) refl) ∙ ap (λ (u : Try Refusal Rules.State). u >>= λ y. ok (f y)) e

      shown : (p : Rules.State × Rules.State) (v : Try Refusal (List Permission)) → (((v >>= λ r. ok (tt {0})) >>= λ u. ok p.0) >>= λ y. ok (y, p.1)) ≡ (v >>= λ r. ok p)
      shown p (ok r) = refl
      shown p (no q) = refl

      unshown : (f : Rules.State → Rules.State × Rules.State) (q : Refusal) (v : Try Refusal (List Permission)) → (((v >>= λ r. ok (tt {0})) >>= λ u. no q) >>= λ y. ok (f y)) ≡ (v >>= λ r. no q)
      unshown f q (ok r) = refl
      unshown f q (no p) = refl

      never : {B : Type 0} (q : Refusal) (v : Try Refusal (List Permission)) → (((v >>= λ r. ok (tt {0})) >>= λ u. no q) >>= ok) ≡ ok x → B
      never q (ok r) e = no_ok e
      never q (no p) e = no_ok e

      go :
          (t : Try Refusal (Rules.State × Rules.State)) → states ≡ t → answered k x ≡ (show_end φ (some s) >>= λ u. t >>= λ c. ok c.0) →
          (after : Rules.State) × (answered k (x, after) ≡ loop_rule n l r φ s)
          × (k ≡ Ok tt → (e : End) → only_known (opposite n) l r φ e ≡ (show_end φ e >>= λ u. ok after))
      go (ok p) d e = (
        p.1,
        paired (λ y. (y, p.1)) _ e ∙ shown p (Rules.show s φ) ∙ ap (λ (t : Try Refusal (Rules.State × Rules.State)). Rules.show s φ >>= λ r. t) (sym d),
        λ f e'. known-second e' ∙ ap (λ (t : Try Refusal (Rules.State × Rules.State)). show_end φ e' >>= λ u. t >>= λ c. ok c.1) d,
      )
      go (no q) d e = (
        x,
        paired (λ y. (y, y)) _ e ∙ unshown (λ y. (y, y)) q (Rules.show s φ) ∙ ap (λ (t : Try Refusal (Rules.State × Rules.State)). Rules.show s φ >>= λ r. t) (sym d),
        λ f e'. never q (Rules.show s φ) (ap (λ (u : Try Refusal Rules.State). u >>= ok) (sym e) ∙ ap (λ (k : Answer). answered k x >>= ok) f),
      )
