-- Atoms of the tables, and formulas atom by atom.
use mathlib.Core.Path.{◌≡◌, refl, sym, ap, ap₂, ◌∙◌}
use mathlib.Core.Bool.{Bool, true, false, not}
use mathlib.Core.List.{List, [], ◌∷◌, map}
use Rattle.std.specs.Prelude.{Ok, Err}
use mathlib.Core.Logic.{inr}
use Prim.Native.Nat.{ℕ, suc, ◌+◌, ◌-◌, ◌<◌}
use native.Mathlib.Omega.{arith}
use denote.Enum.Bare.{sameb}
use Rattle.rules.specs.Base.{Try, ok, no, ◌>>=◌, ◌>>◌, check}
use Rattle.rules.specs.Limits.{most_permissions}
use Rattle.rules.specs.Answers.{Refusal, not_shown}
use Rattle.rules.specs.Syntax.{Formula, Atom, var, own, cmp}
use Rattle.rules.specs.State as Rules
use Rattle.rules.specs.State.{Permission, Equality, equal_in, show_from}
use Rattle.rules.specs.Rules.{actual, subst_term, subst_atom}
use Rattle.tables.specs.declared.kinds.AtomKind.{AtomKind}
use Rattle.tables.specs.contracts.kinds.AtomKind.{the_type}
use Rattle.tables.specs.Kinds.{kind_of, kind_number}
use Rattle.tables.proofs.AtomKinds.{permission-kind, permit-kind, rel-kind}
use Rattle.tables.specs.Decode.{run, is_permission, permit_of, rel_of, atom_kind_at, acc_variable_at, acc_field_at, left_at, right_at, atom_at, atoms_from}
use Rattle.check_equality.specs.Links as Links
use Rattle.check_state.specs.States as States
use Rattle.check_state.specs.States.{Wf, state_of, entries, kind_at, permissions_of}
use Rattle.check_state.specs.Questions.{Bytes}
use Rattle.check_entries.specs.Entries.{LeftFits, left_of}
use Rattle.check_entries.proofs.Halves.{all_left}
use Rattle.check_entailment.specs.declared.Refusal as Declared
use Rattle.check_entailment.specs.Answers.{Answer, answered, ShowsAtom, Adds, AddsAtom}
use Rattle.check_formulas.specs.Formulas.{actual_atom, EntryKind, formula, Shows, Showing}

-- `eq` and `ne` by the kind of their atom
relation-kind : (k : AtomKind) → Links.rel_of (not (sameb the_type k AtomKind.Eq)) ≡ rel_of (kind_number k)
unfolding Links.rel_of rel_of
relation-kind AtomKind.Read = refl
relation-kind AtomKind.Acc = refl
relation-kind AtomKind.Chain = refl
relation-kind AtomKind.Eq = refl
relation-kind AtomKind.Ne = refl

pub relation : (k : AtomKind) (b : ℕ) → k ≡ kind_of b → Links.rel_of (not (sameb the_type k AtomKind.Eq)) ≡ rel_of b
relation k b e = relation-kind k ∙ ap (λ k. rel_of (kind_number k)) e ∙ rel-kind b

module _ (w : List ℕ) (y z x a : ℕ) (k : AtomKind) (e : k ≡ kind_of (atom_kind_at w a)) where
  permission : is_permission (atom_kind_at w a) ≡ is_permission (kind_number k)
  permission = sym (permission-kind _) ∙ ap (λ k. is_permission (kind_number k)) (sym e)

  pub atom-own :
      (kind v f : ℕ) → EntryKind (kind_number k) kind → v ≡ actual y z x (acc_variable_at w a) → f ≡ acc_field_at w a →
      own (States.permit_of kind) v f ≡ actual_atom w y z x a
  unfolding atom_at subst_atom
  atom-own kind v f h d g =
      rw (h.1.1, d, g, permission, h.0, ap (λ k. permit_of (kind_number k)) e ∙ permit-kind (atom_kind_at w a))

  pub atom-relation :
      (l r : Rules.Term) → is_permission (kind_number k) ≡ false → l ≡ subst_term (actual y z x) (left_at w a) →
      r ≡ subst_term (actual y z x) (right_at w a) → cmp (Links.rel_of (not (sameb the_type k AtomKind.Eq))) l r ≡ actual_atom w y z x a
  unfolding atom_at subst_atom
  atom-relation l r h p d = rw (relation k _ e, p, d, permission, h)

module _ (w : List ℕ) (y z x : ℕ) where
  pub formula-none : (a : ℕ) → formula w y z x a 0 ≡ []
  unfolding formula run
  formula-none a = refl

  pub formula-more :
      (a n i : ℕ) → i < n → formula w y z x (a + i) (n - i) ≡ subst_atom (actual y z x) (atom_at w (a + i)) ∷ formula w y z x (a + (i + 1)) (n - (i + 1))
  unfolding formula run
  formula-more a n i h =
      let e : n - i ≡ suc (n - (i + 1)) = omega arith in
      let d : suc (a + i) ≡ a + (i + 1) = omega arith in
      ap (λ (k : ℕ). map (subst_atom (actual y z x)) (atoms_from w (a + i) k)) e
      ∙ ap (λ (k : ℕ). subst_atom (actual y z x) (atom_at w (a + i)) ∷ map (subst_atom (actual y z x)) (atoms_from w k (n - (i + 1)))) d

  pub formula-all : (a n : ℕ) → formula w y z x (a + 0) (n - 0) ≡ formula w y z x a n
  formula-all a n =
      let e : a + 0 ≡ a = omega arith in
      let d : n - 0 ≡ n = omega arith in
      ap₂ (λ (k m : ℕ). formula w y z x k m) e d

-- ONE ATOM AND THE OTHERS
pub bind-bind :
    {A B C : Type 0} (t : Try Refusal A) (f : A → Try Refusal B) (g : B → Try Refusal C) (h : A → Try Refusal C) →
    ((a : A) → h a ≡ (f a >>= g)) → (t >>= h) ≡ ((t >>= f) >>= g)
unfolding ◌>>=◌
bind-bind (ok a) f g h e = e a
bind-bind (no r) f g h e = refl

check-on : {A B : Type 0} (c : Bool) (a : A) (f : A → Try Refusal B) → (check c not_shown >> f a) ≡ ((check c not_shown >> ok a) >>= f)
unfolding check ◌>>◌ ◌>>=◌
check-on true a f = refl
check-on false a f = refl

show-on :
    (◌~◌ : Equality) (s : Rules.State) (a : Atom ℕ) (φ : Formula ℕ) (kept : List Permission) →
    show_from ◌~◌ s (a ∷ φ) kept ≡ (show_from ◌~◌ s (a ∷ []) kept >>= λ k. show_from ◌~◌ s φ k)
unfolding show_from ◌>>=◌
show-on ◌~◌ s (own k y f) φ kept = bind-bind (Rules.take_own ◌~◌ k (var y) f kept) ok (show_from ◌~◌ s φ) (show_from ◌~◌ s φ) (λ k. refl)
show-on ◌~◌ s (cmp n a b) φ kept =
    bind-bind (Rules.resolve ◌~◌ s.permissions a) _ _ _
    (λ t. bind-bind (Rules.resolve ◌~◌ s.permissions b) _ _ _ (λ u. check-on (Rules.holds_in ◌~◌ s n t u) kept (show_from ◌~◌ s φ)))

add-on : (a : Atom ℕ) (φ : Formula ℕ) (s : Rules.State) → Rules.add (a ∷ φ) s ≡ (Rules.add (a ∷ []) s >>= λ t. Rules.add φ t)
unfolding Rules.add ◌>>=◌
add-on (own k x f) φ s = bind-bind (Rules.add_own k x f s) ok (Rules.add φ) (Rules.add φ) (λ t. refl)
add-on (cmp n a b) φ s =
    bind-bind (Rules.resolve (equal_in s) s.permissions a) _ _ _
    (λ t. bind-bind (Rules.resolve (equal_in s) s.permissions b) _ _ _ (λ u. bind-bind (Rules.add_fact n t u s) ok (Rules.add φ) (Rules.add φ) (λ t. refl)))

-- SHOWING
pub start_fits : (key b left : List ℕ) → Wf key b → Bytes (kind_at b) most_permissions left → LeftFits b left
start_fits key b left w B =
    record {
      size = B.size;
      most = λ i h. let e = B.at i (omega (arith, w.fit)) in omega arith;
      whole = λ i h g. inr (omega (arith, B.at i (omega (arith, w.fit)), (w.kinds i h).1));
    }

-- all is left at first
pub start_left : (key b left : List ℕ) → Wf key b → Bytes (kind_at b) most_permissions left → left_of b left ≡ permissions_of b
start_left key b left w B = all_left b left (entries b) (λ i h. B.at i (omega (arith, w.fit))) w.kinds

pub show-start :
    (w : List ℕ) (y z x a n : ℕ) (key b left : List ℕ) → Wf key b → Bytes (kind_at b) most_permissions left →
    Showing key b (formula w y z x a n) (formula w y z x (a + 0) (n - 0)) left
unfolding Rules.show
show-start w y z x a n key b left W B =
    ap₂ (λ (φ : Formula ℕ) (kept : List Permission). show_from (equal_in (state_of key b)) (state_of key b) φ kept) (formula-all w y z x a n)
    (start_left key b left W B)

module _ (key b : List ℕ) (φ rest : Formula ℕ) (left : List ℕ) (S : Showing key b φ rest left) where
  module _ (a : Atom ℕ) (more : Formula ℕ) (e : rest ≡ a ∷ more) (left' : List ℕ) where
    on :
        (k : Answer) → ShowsAtom key b left a k left' →
        (answered k (left_of b left') >>= λ d. show_from (equal_in (state_of key b)) (state_of key b) more d) ≡ Rules.show (state_of key b) φ
    on k A =
        ap (λ (t : Try Refusal (List Permission)). t >>= λ d. show_from (equal_in (state_of key b)) (state_of key b) more d) A
        ∙ sym (show-on (equal_in (state_of key b)) (state_of key b) a more (left_of b left)) ∙ rw (← e) S

    pub show-more : ShowsAtom key b left a (Ok tt) left' → Showing key b φ more left'
    unfolding answered ◌>>=◌
    show-more A = on (Ok tt) A

    pub show-refused : (r : Declared.Refusal) → ShowsAtom key b left a (Err r) left' → Shows key b φ (Err r) left'
    unfolding answered ◌>>=◌
    show-refused r A = on (Err r) A

  pub show-end : rest ≡ [] → Shows key b φ (Ok tt) left
  unfolding show_from answered
  show-end e = rw e at S

-- ADDING
module _ (key b : List ℕ) (a : Atom ℕ) (key' b' : List ℕ) (rest more : Formula ℕ) (e : rest ≡ a ∷ more) where
  pub add-more : AddsAtom key b a (Ok tt) key' b' → Rules.add rest (state_of key b) ≡ Rules.add more (state_of key' b')
  unfolding answered ◌>>=◌
  add-more A = rw e (add-on a more (state_of key b) ∙ rw (← A.same))

  pub add-refused : (r : Declared.Refusal) → AddsAtom key b a (Err r) key' b' → Adds (Rules.add rest (state_of key b)) (Err r) key' b'
  unfolding answered ◌>>=◌
  add-refused r A = record { wf = A.wf; same = sym (rw e (add-on a more (state_of key b) ∙ rw (← A.same))) }

pub add-end : (key b : List ℕ) (rest : Formula ℕ) → Wf key b → rest ≡ [] → Adds (Rules.add rest (state_of key b)) (Ok tt) key b
unfolding Rules.add answered
add-end key b rest w e = record { wf = w; same = rw e }
