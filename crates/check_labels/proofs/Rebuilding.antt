-- The facts that are left, with labels made anew.
use mathlib.Core.Path.{◌≡◌, refl, sym, ap, ap₂, ◌∙◌}
use mathlib.Core.Bool.{Bool, true, false, cond, not, ◌&&◌, ◌||◌}
use mathlib.Core.List.{List, [], ◌∷◌, ◌++◌}
use mathlib.Core.Option.{Option, none, some}
use Prim.Native.Nat.{ℕ, zero, suc, ◌+◌, ◌*◌, ◌≤◌, ◌<◌}
use native.Mathlib.Omega.{arith}
use native.Mathlib.Numerals.{add-one}
use lib.Dec.{eqb}
use lib.ListN.{get_or, set}
use Rattle.rules.specs.Base.{keep, map_option, bind_option}
use Rattle.rules.specs.State.{Term, Fact, Renaming, trivial, rename_fact, rename_facts}
use Rattle.rules.specs.Limits.{most_facts}
use Rattle.check_equality.specs.Keys.{term_of}
use Rattle.check_equality.specs.Listing.{listed}
use Rattle.check_equality.specs.Links.{term_at, fact_of, Pushed}
use Rattle.check_equality.specs.Layout.{left_sides, right_sides, relations_at, variables_at, fact_count, entry_count}
use Rattle.check_equality.proofs.Keys.{same_key}
use Rattle.check_equality.proofs.Listing.{listed_more, listed_same, map-append}
use Rattle.check_state.specs.States.{Linked, facts, entries, apart_at, fact_at, facts_in}
use Rattle.check_state.proofs.Writing.{kinds-same, counted-linked, counted-facts, counted-other, pushed-facts, pushed-linked, pushed-rest, pushed-keys}
use Rattle.check_inequality.proofs.Searches.{ne-is}
use Rattle.check_scans.specs.Scans.{same_sides, trivial_at}
use Rattle.check_labels.specs.Facts.{Fresh, Stands, Sized, Rebuilt, KeepsFact}

-- ONE MORE FACT
pub keeps-fact :
    (key b : List ℕ) (n c l r : ℕ) → Linked key b n → n < most_facts → (key' b₁ : List ℕ) (d : Bool) → eqb c 1 ≡ d →
    Pushed key b (left_sides + 2 * n) d l r key' b₁ → KeepsFact key b n false c l r key' (set b₁ (relations_at + n) c) (n + 1)
keeps-fact key b n c l r L h key' b₁ d e P =
    record {
      few = omega arith;
      linked = pushed-linked key b n c l r L h key' b₁ d e P;
      facts = pushed-facts key b n c l r L h key' b₁ d e P;
      keys = λ j g. pushed-keys key b n c l r L h key' b₁ d e P j (omega arith) (omega arith);
      rest = pushed-rest key b n c l r L h key' b₁ d e P;
    }

-- ONE MORE FACT RENAMED
pub keep_append : {A : Type 0} (p : A → Bool) (l m : List A) → keep p (l ++ m) ≡ keep p l ++ keep p m
unfolding keep
keep_append p [] m = refl
keep_append {A = A} p (a ∷ l) m = go (p a) (keep_append p l m)
  where
    go : (c : Bool) → keep p (l ++ m) ≡ keep p l ++ keep p m → cond c (a ∷ keep p (l ++ m)) (keep p (l ++ m)) ≡ cond c (a ∷ keep p l) (keep p l) ++ keep p m
    go true e = ap (λ (r : List A). a ∷ r) e
    go false e = e

trivial-keys : (c l r : ℕ) → trivial (fact_of (eqb c 1) l r) ≡ same_sides c l r
unfolding trivial same_sides
trivial-keys c l r = ap₂ (λ (a b : Bool). not a && b) (ne-is (eqb c 1)) (same_key l r)

module _ (ρ : Renaming) (old b : List ℕ) (i : ℕ) (g h : Bool) (l r : ℕ) (eg : ρ (term_at old (left_sides + 2 * i)) ≡ cond g none (some (term_of l)))
    (eh : ρ (term_at old (right_sides + 2 * i)) ≡ cond h none (some (term_of r))) where
  fact-renamed : rename_fact ρ (fact_at old b i) ≡ cond (g || h) none (some (fact_of (apart_at b i) l r))
  unfolding rename_fact bind_option
  fact-renamed = rw (eg, eh) (go g h)
    where
      go :
          (a c : Bool) →
          bind_option (cond a none (some (term_of l))) (λ (t : Term). bind_option (cond c none (some (term_of r))) (λ (u : Term). some (record { rel = (fact_at old b i).rel; left = t; right = u })))
          ≡ cond (a || c) none (some (fact_of (apart_at b i) l r))
      go true c = refl
      go false true = refl
      go false false = refl

  pub facts-more :
      rename_facts ρ (facts_in old b (i + 1))
      ≡ rename_facts ρ (facts_in old b i) ++ cond ((g || h) || same_sides (get_or b (relations_at + i) 0) l r) [] (fact_of (apart_at b i) l r ∷ [])
  unfolding rename_facts map_option keep
  facts-more =
      ap (λ (fs : List Fact). keep plain (map_option (rename_fact ρ) fs)) (listed_more (fact_at old b) i)
      ∙ ap (keep plain) (map-append (rename_fact ρ) (facts_in old b i) (fact_at old b i ∷ []))
      ∙ keep_append plain (map_option (rename_fact ρ) (facts_in old b i)) (map_option (rename_fact ρ) (fact_at old b i ∷ []))
      ∙ ap (λ (fs : List Fact). keep plain (map_option (rename_fact ρ) (facts_in old b i)) ++ fs) (one (rename_fact ρ (fact_at old b i)) (g || h) _ fact-renamed (trivial-keys (get_or b (relations_at + i) 0) l r))
    where
      plain : Fact → Bool
      plain f = not (trivial f)

      one :
          (o : Option Fact) (c d : Bool) → o ≡ cond c none (some (fact_of (apart_at b i) l r)) → trivial (fact_of (apart_at b i) l r) ≡ d →
          keep plain (elim o [ none ↦ [] | some f ↦ f ∷ [] ]) ≡ cond (c || d) [] (fact_of (apart_at b i) l r ∷ [])
      one o true d e t = rw e
      one o false true e t = rw (e, t)
      one o false false e t = rw (e, t)

pub facts-none : (ρ : Renaming) (old b : List ℕ) → rename_facts ρ (facts_in old b 0) ≡ []
unfolding rename_facts map_option listed keep
facts-none ρ old b = refl

-- the fact i of those that are rebuilt, whose sides and flag stand where they stood
pub facts-next :
    (ρ : Renaming) (old key₀ b₀ : List ℕ) (gone : List Bool) (all i : ℕ) → Stands ρ old key₀ gone all → i < all → (fs fs' : List Fact) (c l r : ℕ) (t : Bool) →
    fs' ≡ fs ++ cond ((get_or gone (left_sides + 2 * i) false || get_or gone (right_sides + 2 * i) false) || t) [] (fact_of (eqb c 1) l r ∷ []) → t ≡ same_sides c l r →
    l ≡ get_or key₀ (left_sides + 2 * i) 0 → r ≡ get_or key₀ (right_sides + 2 * i) 0 → c ≡ get_or b₀ (relations_at + i) 0 → fs ≡ rename_facts ρ (facts_in old b₀ i) →
    fs' ≡ rename_facts ρ (facts_in old b₀ (i + 1))
facts-next ρ old key₀ b₀ gone all i S h fs fs' c l r t k et el er ec e =
    k ∙ ap₂ (λ (a b : List Fact). a ++ b) e (rw (et, el, er, ec))
    ∙ sym (facts-more ρ old b₀ i (get_or gone (left_sides + 2 * i) false) (get_or gone (right_sides + 2 * i) false) (get_or key₀ (left_sides + 2 * i) 0) (get_or key₀ (right_sides + 2 * i) 0) (S (left_sides + 2 * i) (omega arith) (omega arith)) (S (right_sides + 2 * i) (omega arith) (omega arith)))

-- FACTS THAT STAY
pub facts-as :
    (key b old : List ℕ) (ρ : Renaming) (n : ℕ) → ((i : ℕ) → i < n → trivial_at key b i ≡ false) →
    ((j : ℕ) → left_sides ≤ j → j < left_sides + 2 * n → ρ (term_at old j) ≡ some (term_at key j)) → facts_in key b n ≡ rename_facts ρ (facts_in old b n)
unfolding listed
facts-as key b old ρ zero plain same = sym (facts-none ρ old b)
facts-as key b old ρ (suc n) plain same =
    ap (λ (fs : List Fact). fs ++ (fact_at key b n ∷ [])) (facts-as key b old ρ n (λ i h. plain i (omega arith)) (λ j a h. same j a (omega arith)))
    ∙ ap (λ (c : Bool). rename_facts ρ (facts_in old b n) ++ cond c [] (fact_at key b n ∷ [])) (sym (plain n (omega arith)))
    ∙ sym
    (facts-more ρ old b n false false (get_or key (left_sides + 2 * n) 0) (get_or key (right_sides + 2 * n) 0) (same (left_sides + 2 * n) (omega arith) (omega arith))
    (same (right_sides + 2 * n) (omega arith) (omega arith)))
    ∙ ap (λ (k : ℕ). rename_facts ρ (facts_in old b k)) (add-one n)

-- REBUILT: the count of facts is written; b₁ is b with fresh labels
pub rebuilt-fresh :
    (key₀ b b₁ key b₂ : List ℕ) (gone : List Bool) (n : ℕ) → Sized key₀ b → Fresh b b₁ → Linked key b₂ n →
    ((ρ : Renaming) (old : List ℕ) → Stands ρ old key₀ gone (facts b) → facts_in key b₂ n ≡ rename_facts ρ (facts_in old b₁ (facts b))) →
    ((j : ℕ) → variables_at ≤ j → get_or b₂ j 0 ≡ get_or b₁ j 0) → Rebuilt key₀ b gone key (set b₂ fact_count n)
rebuilt-fresh key₀ b b₁ key b₂ gone n w F L e rest =
    record {
      wf = record {
        linked = counted-linked b₂ n L.size key L;
        fit = omega (arith, far entry_count (omega arith) (omega arith), w.entries_fit);
        kinds = kinds-same b (set b₂ fact_count n) (entries b) (entries (set b₂ fact_count n)) (far entry_count (omega arith) (omega arith)) (λ i g. far i (omega arith) (omega arith)) w.kinds;
      };
      facts = λ ρ old S. counted-facts b₂ n L.size key L.fit ∙ e ρ old S ∙ ap (rename_facts ρ) (listed_same _ _ (facts b) (λ i h. rw (F.rest (relations_at + i) (omega arith))));
      rest = far;
    }
  where
    far : (i : ℕ) → variables_at ≤ i → (i ≡ fact_count → ⊥) → get_or (set b₂ fact_count n) i 0 ≡ get_or b i 0
    far i g s = counted-other b₂ n L.size i s ∙ rest i g ∙ F.rest i (omega arith)
