-- Showing, one atom at a time.
use mathlib.Core.Path.{◌≡◌, refl, sym, ◌∙◌, subst}
use mathlib.Core.Bool.{Bool, true, false, not, ◌&&◌}
use mathlib.Core.List.{List}
use Rattle.std.specs.Prelude.{Ok, Err}
use mathlib.Core.Option.{none}
use mathlib.Core.Logic.{inl, ⊎_elim}
use Prim.Native.Nat.{ℕ, ◌-◌, ◌≤◌, ◌<◌}
use native.Mathlib.Omega.{arith}
use lib.Dec.{leb}
use lib.ListN.{get_or, set, length-set}
use lib.Seq.{get_or-set_same, get_or-set_other}
use borrow.Author.Tests.{leb-true}
use Rattle.rules.specs.Base.{Try, ok, no, ◌>>=◌, ◌>>◌, check}
use Rattle.rules.specs.Answers.{Refusal, not_shown}
use Rattle.rules.specs.Syntax.{null, var, own, is_path}
use Rattle.rules.specs.State.{Term, Permission, equal_in, holds_in, shown_by, take_own, show_from}
use Rattle.rules.proofs.Lists.{decide_eq}
use Rattle.check_equality.specs.Keys.{term_of}
use Rattle.check_equality.specs.Layout.{chain_kind}
use Rattle.check_equality.specs.Links.{rel_of}
use Rattle.check_state.specs.States.{Wf, state_of, entries, kind_at, permit_of, IsKind}
use Rattle.check_state.specs.Questions.{FirstPlace, entry_test, passes, in_range}
use Rattle.check_entries.specs.Entries.{LeftFits, left_of}
use Rattle.check_entailment.specs.declared.Refusal as Declared
use Rattle.check_entailment.specs.declared.Refusal.TheVariants.{NotShown}
use Rattle.check_entailment.specs.Answers.{Answer, refusal_of, answered, most_serving, Takes, ShowsAtom, sides_of, resolved_sides, ShowsRelation}
use Rattle.check_entailment.proofs.Refusals.{by-sides}
use Rattle.check_entailment.proofs.Splits.{of-kind, left-none, left-first}

-- ACCESS
module _ (key b : List ℕ) (w : Wf key b) (left : List ℕ) (L : LeftFits b left) (want : ℕ) (t : Term) (f i : ℕ) (k : IsKind want)
    (F : FirstPlace (entry_test b left want (most_serving want) t f (equal_in (state_of key b))) (entries b) i) where
  most : (j : ℕ) → j < entries b → get_or left j 0 ≤ chain_kind
  most j h = omega (arith, L.most j h, (w.kinds j h).1)

  pub serving : i < entries b → (want ≤ get_or left i 0) × (get_or left i 0 ≤ most_serving want)
  unfolding passes in_range
  serving h =
      let e = first (leb want (get_or left i 0) && leb (get_or left i 0) (most_serving want)) _ (F.found h) in
      (leb-true want (get_or left i 0) (first (leb want (get_or left i 0)) _ e), leb-true (get_or left i 0) (most_serving want) (second (leb want (get_or left i 0)) _ e))
    where
      first : (a c : Bool) → (a && c) ≡ true → a ≡ true
      first true c d = refl
      first false c d = d

      second : (a c : Bool) → (a && c) ≡ true → c ≡ true
      second true c d = d
      second false c d = absurd (let z : ◌≡◌ {A = ℕ} 0 1 = cc in omega arith)

  -- nothing is left of a chain
  taken-whole : (l : ℕ) → l ≤ most_serving want → l ≡ chain_kind → l - want ≡ 0
  unfolding most_serving
  taken-whole l g e =
      of-kind (λ v. l ≤ most_serving v → l - v ≡ 0) (λ g. absurd (omega (arith, e, g))) (λ g. absurd (omega (arith, e, g))) (λ g. omega (arith, e)) want k g

  pub access-fits : i < entries b → LeftFits b (set left i (get_or left i 0 - want))
  access-fits h =
      record {
        size = length-set left i _ ∙ L.size;
        most = λ j g. ⊎_elim (λ d. rw d (subst (λ (l : ℕ). l ≤ kind_at b i) (sym here) (omega (arith, L.most i h)))) (λ d. rw (other j d) (L.most j g)) (decide_eq j i);
        whole = λ j g c. ⊎_elim (λ d. rw d (inl (here ∙ none_left (rw d at c)))) (λ d. rw (other j d) (L.whole j g c)) (decide_eq j i);
      }
    where
      here : get_or (set left i (get_or left i 0 - want)) i 0 ≡ get_or left i 0 - want
      here = get_or-set_same left i (get_or left i 0 - want) 0 (omega (arith, L.size, w.fit))

      other : (j : ℕ) → (j ≡ i → ⊥) → get_or (set left i (get_or left i 0 - want)) j 0 ≡ get_or left j 0
      other j d = get_or-set_other left i j (get_or left i 0 - want) 0 d

      none_left : chain_kind ≤ kind_at b i → get_or left i 0 - want ≡ 0
      none_left c = ⊎_elim (λ e. omega arith) (λ e. taken-whole (get_or left i 0) (serving h).1 e) (L.whole i h c)

  pub access-taken : i < entries b → Takes key b left want t f (Ok tt) (set left i (get_or left i 0 - want))
  unfolding take_own shown_by answered refusal_of
  access-taken h = rw (left-first b left (equal_in (state_of key b)) want t f (entries b) i k most F h (omega (arith, L.size, w.fit)))

  -- no entry serves
  pub access-left :
      entries b ≤ i → (shown : Bool) → shown ≡ (not (is_path (permit_of want)) && equal_in (state_of key b) null t) → (a : Answer) →
      ((kept : List Permission) → answered a kept ≡ shown_by shown kept none) → Takes key b left want t f a left
  unfolding take_own
  access-left h shown e a A = rw (left-none b left (equal_in (state_of key b)) want t f (entries b) i k most F h, ← e) (A (left_of b left))

-- an atom of a variable
pub access-shown :
    (key b left : List ℕ) (want : ℕ) (t : Term) (y f : ℕ) (a : Answer) (left' : List ℕ) → t ≡ var y → Takes key b left want t f a left' →
    ShowsAtom key b left (own (permit_of want) y f) a left'
unfolding show_from ◌>>=◌
access-shown key b left want t y f a left' e A = A ∙ rw e (last (take_own (equal_in (state_of key b)) (permit_of want) (var y) f (left_of b left)))
  where
    last : (r : Try Refusal (List Permission)) → r ≡ (r >>= λ kept. ok kept)
    last (ok kept) = refl
    last (no n) = refl

-- RELATIONS
module _ (key b : List ℕ) (apart : Bool) (l r : Term) where
  abbrev checked : List Permission → Term → Term → Try Refusal (List Permission)
  checked kept t u = check (holds_in (equal_in (state_of key b)) (state_of key b) (rel_of apart) t u) not_shown >> ok kept

  pub relation-unresolved : (e : Declared.Refusal) → sides_of (Err e) ≡ resolved_sides (state_of key b) l r → ShowsRelation key b apart l r (Err e)
  unfolding show_from answered sides_of ◌>>=◌
  relation-unresolved e d kept = sym (by-sides (state_of key b) l r (checked kept) ∙ rw (← d))

  module _ (t u : ℕ) (d : sides_of (Ok (t, u)) ≡ resolved_sides (state_of key b) l r) where
    pub relation-shown : true ≡ holds_in (equal_in (state_of key b)) (state_of key b) (rel_of apart) (term_of t) (term_of u) → ShowsRelation key b apart l r (Ok tt)
    unfolding show_from answered sides_of ◌>>=◌ ◌>>◌ check
    relation-shown h kept = sym (by-sides (state_of key b) l r (checked kept) ∙ rw (← d, ← h))

    pub relation-refused : false ≡ holds_in (equal_in (state_of key b)) (state_of key b) (rel_of apart) (term_of t) (term_of u) → ShowsRelation key b apart l r (Err NotShown)
    unfolding show_from answered refusal_of sides_of ◌>>=◌ ◌>>◌ check
    relation-refused h kept = sym (by-sides (state_of key b) l r (checked kept) ∙ rw (← d, ← h))
