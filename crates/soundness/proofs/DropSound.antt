-- Dropping terms of a state: the facts that are left are true, where each term that is left or renamed keeps its value and stays listed.
use mathlib.Core.Path.{◌≡◌, ◌∙◌, subst}
use mathlib.Core.Bool.{not}
use mathlib.Core.List.{List, [], ◌∷◌}
use mathlib.Core.Logic.{◌⊎◌, ⊎_elim}
use mathlib.Core.Option.{some}
use Prim.Native.Nat.{ℕ}
use lib.Dec.{T}
use Rattle.rules.specs.Base.{any, keep, map_option, Member}
use Rattle.rules.specs.Syntax.{num, null, var, path}
use Rattle.rules.specs.State.{Term, Permission, Fact, State, Renaming, entry, path_of, equal_in, becomes, rename_fact, trivial, rename_facts, paths, lists, without_paths, facts_without}
use Rattle.rules.specs.Machine.{Frame, Heap}
use Rattle.rules.proofs.Lists.{keep-member, came_from, bind-some, some_inj}
use Rattle.rules.specs.Reached.{Known}
use Rattle.rules.proofs.Successors.{order-known, entry_listed, listed-entry, successor-is, gives-way, without_is}
use Rattle.soundness.proofs.Satisfied.{term_value, Listed, Reads, FactTrue, Satisfied, related-by}
use Rattle.soundness.proofs.ShowSound.{equal-value}

-- a listed path, by the checker's test
pub reads-listed : (ps : List Permission) (x f : ℕ) → Listed ps x f → T (lists ps (path x f))
unfolding path_of
reads-listed ps x f (k, t, i) = entry_listed ps (entry k x f) i t

pub listed-reads : (ps : List Permission) (x f : ℕ) → T (lists ps (path x f)) → Listed ps x f
unfolding path_of
listed-reads ps x f h =
    let (p, i, t, e) = listed-entry ps (path x f) h in
    let a : p.variable ≡ x = cc in
    let b : p.field ≡ f = cc in
    let is : p ≡ entry p.permit x f = λ i. record { permit = p.permit; variable = a i; field = b i } in
    (p.permit, t, subst (λ (q : Permission). Member q ps) is i)

known-reads : (ps : List Permission) (t : Term) → Known ps t → Reads ps t
known-reads ps (num n) k = tt
known-reads ps null k = tt
known-reads ps (var x) k = tt
known-reads ps (path x f) k = listed-reads ps x f k

-- EVERY DROPPING: each term that is left or renamed has in G over h' the value that it had in F over h
module _ (h h' : Heap) (F G : Frame) (s : State) (S : Satisfied h F s) (ρ : Renaming) (ps : List Permission)
    (renamed : (t u : Term) → ρ t ≡ some u → Reads s.permissions t → Reads ps u × (term_value h' G u ≡ term_value h F t))
    (left : (u : Term) → ρ u ≡ some u → Reads ps u → term_value h' G u ≡ term_value h F u) where
  -- so has what becomes of one that is dropped
  pub became :
      (t u : Term) → becomes s ρ ps t ≡ some u → Reads s.permissions t → Reads ps u × (term_value h' G u ≡ term_value h F t)
  unfolding becomes
  became t u e r =
      ⊎_elim (λ k. renamed t u k r)
      (λ (_, k).
      let (i, l, q) = successor-is (equal_in s) ρ ps s.facts t u k in
      let d : Reads ps u = known-reads ps u (order-known ps s.facts u i) in
      (d, left u l d ∙ equal-value h F s S u t q))
      (gives-way (equal_in s) ρ ps s.facts t u e)

  fact-became : (f g : Fact) → rename_fact (becomes s ρ ps) f ≡ some g → FactTrue h F s.permissions f → FactTrue h' G ps g
  unfolding rename_fact
  fact-became f g e t =
      let (a, i, e₁) = bind-some (becomes s ρ ps f.left) _ g e in
      let (b, j, e₂) = bind-some (becomes s ρ ps f.right) _ g e₁ in
      let (ra, va) = became f.left a i t.reads-left in
      let (rb, vb) = became f.right b j t.reads-right in
      subst (FactTrue h' G ps) (some_inj e₂)
      (record { related = related-by f.rel va vb t.related; reads-left = ra; reads-right = rb })

  -- the lemma on dropping
  pub facts-became : (g : Fact) → Member g (rename_facts (becomes s ρ ps) s.facts) → FactTrue h' G ps g
  unfolding rename_facts
  facts-became g i =
      let (j, _) = keep-member (λ f. not (trivial f)) (map_option (rename_fact (becomes s ρ ps)) s.facts) g i in
      let (f, k, e) = came_from (rename_fact (becomes s ρ ps)) s.facts g j in
      fact-became f g e (S.knows.facts f k)

-- PATHS DROPPED
-- ps are left of the entries of s, and all that they list but the paths that go has over h' the value that it had
module _ (h h' : Heap) (F : Frame) (s : State) (S : Satisfied h F s) (ps : List Permission) where
  module _ (gone : List Permission) (all : (x f : ℕ) → Listed s.permissions x f → Listed ps x f ⊎ T (lists gone (path x f)))
      (value : (u : Term) → (T (lists gone u) → ⊥) → Reads ps u → term_value h' F u ≡ term_value h F u) where
    reads-left : (t : Term) → (T (lists gone t) → ⊥) → Reads s.permissions t → Reads ps t
    reads-left (num n) out r = tt
    reads-left null out r = tt
    reads-left (var x) out r = tt
    reads-left (path x f) out r = ⊎_elim (λ k. k) (λ u. absurd (out u)) (all x f r)

    left-term :
        (t u : Term) → without_paths gone t ≡ some u → Reads s.permissions t → Reads ps u × (term_value h' F u ≡ term_value h F t)
    left-term t u e r =
        let (out, is) = without_is gone t u e in
        subst (λ u. Reads ps u × (term_value h' F u ≡ term_value h F t)) is
        (reads-left t out r, value t out (reads-left t out r))

    fact_left : (f : Fact) → ((t : Term) → T (lists gone t) → ⊥) → FactTrue h F s.permissions f → FactTrue h' F ps f
    fact_left f out t =
        let a : Reads ps f.left = reads-left f.left (out f.left) t.reads-left in
        let b : Reads ps f.right = reads-left f.right (out f.right) t.reads-right in
        record {
          related = related-by f.rel (value f.left (out f.left) a) (value f.right (out f.right) b) t.related;
          reads-left = a;
          reads-right = b;
        }

  -- the lemma on dropping paths
  pub paths-dropped :
      (gone : List Permission) → ((x f : ℕ) → Listed s.permissions x f → Listed ps x f ⊎ T (lists gone (path x f))) →
      ((u : Term) → (T (lists gone u) → ⊥) → Reads ps u → term_value h' F u ≡ term_value h F u) → (g : Fact) →
      Member g (facts_without gone ps s) → FactTrue h' F ps g
  unfolding facts_without lists paths keep any
  paths-dropped [] all value g i = fact_left [] all value g (λ t z. z) (S.knows.facts g i)
  paths-dropped (p ∷ gone) all value g i =
      facts-became h h' F F s S (without_paths (p ∷ gone)) ps (left-term (p ∷ gone) all value)
      (λ u e r. value u (without_is (p ∷ gone) u u e).0 r) g i
