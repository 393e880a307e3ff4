-- The searches one after the other are the search for a successor.
use mathlib.Core.Path.{◌≡◌, refl, sym, ap, ◌∙◌}
use mathlib.Core.Bool.{Bool, true, false, cond, ◌&&◌}
use mathlib.Core.List.{List, [], ◌∷◌, ◌++◌, map}
use mathlib.Core.Option.{Option, none, some}
use Prim.Native.Nat.{ℕ, zero, suc, ◌+◌, ◌*◌, ◌-◌, ◌≤◌, ◌<◌}
use native.Mathlib.Omega.{arith}
use lib.ListN.{get_or}
use Rattle.rules.specs.Base.{first, bind_option}
use Rattle.rules.specs.Syntax.{num, null, var}
use Rattle.rules.specs.State as Rules
use Rattle.rules.specs.State.{Term, Fact, Permission, Renaming, Equality, is_left, path_of, paths, numbers, terms_of, rising, in_order, variables, equal_in, equal_by, representative}
use Rattle.check_equality.specs.Keys.{term_of}
use Rattle.check_equality.proofs.Keys.{of_number}
use Rattle.check_equality.specs.Listing.{listed}
use Rattle.check_equality.proofs.Listing.{first-append, first-stays, first-here, first_found}
use Rattle.check_state.specs.States.{fact_at, facts_in, facts_of, facts, entries, state_of, left_at, path_at_entry}
use Rattle.check_state.specs.Questions.{FirstPlace, stands_for}
use Rattle.check_state.proofs.Entries.{first-none}
use Rattle.std.specs.Prelude as Std
use Rattle.std.specs.Prelude.{Some, None}
use Rattle.check_successors.specs.Successors.{Drops, path_test, entry_path_test, number_or, Numbered, term_or, side_terms, least_number}

-- BY PLACES
module _ {A : Type 0} (p : A → Bool) (f : ℕ → A) (n r : ℕ) (F : FirstPlace (λ i. p (f i)) n r) where
  place_found : r < n → first p (listed f n) ≡ some (f r)
  place_found h = first_found p f n r h (first-here p f r (first-none p f r F.before) (F.found h))

  place_none : n ≤ r → first p (listed f n) ≡ none
  place_none h = first-none p f n (λ i g. F.before i (omega (arith, g, h)))

first-same : {A : Type 0} (p : A → Bool) (n r : ℕ) (f : ℕ → A) (t : ℕ → Bool) → ((i : ℕ) → i < n → t i ≡ p (f i)) → FirstPlace t n r → FirstPlace (λ i. p (f i)) n r
first-same p n r f t e F =
    record {
      within = F.within;
      before = λ i h. sym (e i (omega (arith, h, F.within))) ∙ F.before i h;
      found = λ h. sym (e r h) ∙ F.found h;
    }

first-numbers :
    (p : Term → Bool) (q : ℕ → Bool) (l : List ℕ) → ((n : ℕ) → p (num n) ≡ q n) →
    first p (map num l) ≡ bind_option (first q l) (λ n. some (num n))
unfolding first bind_option
first-numbers p q [] e = refl
first-numbers p q (n ∷ l) e = rw (e n) (go (q n) (first-numbers p q l e))
  where
    go :
        (b : Bool) → first p (map num l) ≡ bind_option (first q l) (λ n. some (num n)) →
        cond b (some (num n)) (first p (map num l)) ≡ bind_option (cond b (some n) (first q l)) (λ n. some (num n))
    go true ih = refl
    go false ih = ih

-- the terms of the facts stand in the slots from 16 on
terms-append : (fs : List Fact) (f : Fact) → terms_of (fs ++ (f ∷ [])) ≡ terms_of fs ++ (f.left ∷ f.right ∷ [])
unfolding terms_of
terms-append [] f = refl
terms-append (g ∷ fs) f = ap (λ (l : List Term). g.left ∷ g.right ∷ l) (terms-append fs f)

pub slots-terms : (key b : List ℕ) (n : ℕ) → side_terms key (2 * n) ≡ terms_of (facts_in key b n)
unfolding listed terms_of
slots-terms key b zero = refl
slots-terms key b (suc n) =
    let e : 2 * suc n ≡ suc (suc (2 * n)) = omega arith in
    let d : 16 + suc (2 * n) ≡ 17 + 2 * n = omega arith in
    ap (λ (k : ℕ). side_terms key k) e
    ∙ ap (λ (k : ℕ). (side_terms key (2 * n) ++ (term_of (get_or key (16 + 2 * n) 0) ∷ [])) ++ (term_of (get_or key k 0) ∷ [])) d
    ∙ rw (slots-terms key b n, terms-append (facts_in key b n) (fact_at key b n))
    (two-more (terms_of (facts_in key b n)) (term_of (get_or key (16 + 2 * n) 0)) (term_of (get_or key (17 + 2 * n) 0)))
  where
    two-more : (l : List Term) (a c : Term) → (l ++ (a ∷ [])) ++ (c ∷ []) ≡ l ++ (a ∷ c ∷ [])
    two-more [] a c = refl
    two-more (z ∷ l) a c = ap (λ (r : List Term). z ∷ r) (two-more l a c)

-- THE ORDER
module _ (key b : List ℕ) (skip : List Bool) (x t : ℕ) (ρ : Renaming) (ps : List Permission) (W : Drops ρ ps b skip x) where
  abbrev alike : Equality
  alike = equal_by (representative (facts_of key b))

  abbrev test : Term → Bool
  test u = is_left ρ u && alike u (term_of t)

  abbrev found : Option Term
  found = Rules.successor (equal_in (state_of key b)) ρ ps (facts_of key b) (term_of t)

  found-is : found ≡ first test (map var variables ++ (map path_of (paths ps) ++ (null ∷ map num (rising (numbers (terms_of (facts_of key b)))))))
  unfolding Rules.successor in_order equal_in
  found-is = refl

  variable-test : (v : ℕ) → v < 15 → stands_for alike x (term_of t) v ≡ test (var v)
  unfolding stands_for
  variable-test v h = ap (λ (c : Bool). c && alike (var v) (term_of t)) (sym (W.variables v h))

  variables-listed : map var variables ≡ listed var 15
  unfolding listed
  variables-listed = refl

  module _ (v : ℕ) (V₀ : FirstPlace (stands_for alike x (term_of t)) 15 v) where
    by-variable : FirstPlace (λ i. test (var i)) 15 v
    by-variable = first-same test 15 v var (stands_for alike x (term_of t)) variable-test V₀

    pub is-variable : v < 15 → some (var v) ≡ found
    is-variable h =
        sym (found-is ∙ first-stays test (map var variables) _ (var v) (rw variables-listed (place_found test var 15 v by-variable h)))

    module _ (no_variable : 15 ≤ v) (i : ℕ) (E₀ : FirstPlace (entry_path_test alike b skip t) (entries b) i) where
      past-variables : found ≡ first test (map path_of (paths ps) ++ (null ∷ map num (rising (numbers (terms_of (facts_of key b))))))
      past-variables =
          found-is ∙ first-append test (map var variables) _ (rw variables-listed (place_none test var 15 v by-variable no_variable))

      abbrev entry_test : ℕ → Bool
      entry_test j = left_at b skip j && alike (path_at_entry b j) (term_of t)

      by-entry : FirstPlace entry_test (entries b) i
      unfolding path_test
      by-entry = E₀

      pub is-path : i < entries b → some (path_at_entry b i) ≡ found
      unfolding bind_option
      is-path h =
          sym
          (past-variables
          ∙ first-stays test (map path_of (paths ps)) _ (path_at_entry b i)
          (W.paths (λ u. alike u (term_of t))
          ∙ ap (λ (o : Option ℕ). bind_option o (λ j. some (path_at_entry b j))) (place_found entry_test (λ j. j) (entries b) i by-entry h)))

      module _ (no-path : entries b ≤ i) where
        past-paths : found ≡ first test (null ∷ map num (rising (numbers (terms_of (facts_of key b)))))
        unfolding bind_option
        past-paths =
            past-variables
            ∙ first-append test (map path_of (paths ps)) _
            (W.paths (λ u. alike u (term_of t))
            ∙ ap (λ (o : Option ℕ). bind_option o (λ j. some (path_at_entry b j))) (place_none entry_test (λ j. j) (entries b) i by-entry no-path))

        null-test : test null ≡ alike null (term_of t)
        null-test = ap (λ (c : Bool). c && alike null (term_of t)) W.null

        pub is-null : alike null (term_of t) ≡ true → some null ≡ found
        unfolding first
        is-null e = sym (past-paths ∙ rw (null-test ∙ e))

        pub is_number :
            alike null (term_of t) ≡ false → (k : Std.Option ℕ) →
            number_or k ≡ least_number alike key (2 * facts b) t →
            bind_option (number_or k) (λ n. some (num n)) ≡ found
        unfolding first
        is_number e k L =
            sym
            (past-paths
            ∙ rw (null-test ∙ e)
            (first-numbers test (λ n. alike (num n) (term_of t)) (rising (numbers (terms_of (facts_of key b)))) (λ n. ap (λ (c : Bool). c && alike (num n) (term_of t)) (W.numbers n))
            ∙ ap (λ (o : Option ℕ). bind_option o (λ n. some (num n))) (sym (L ∙ ap (λ (l : List Term). first (λ n. alike (num n) (term_of t)) (rising (numbers l))) (slots-terms key b (facts b))))))

-- a number's key
pub key-number : (r : Std.Option ℕ) → Numbered r → term_or r ≡ bind_option (number_or r) (λ n. some (num n))
unfolding number_or bind_option term_or
key-number None h = refl
key-number (Some k) h =
    let e : k ≡ 65793 + (k - 65793) = omega (arith, h) in ap (λ (j : ℕ). some (term_of j)) e ∙ ap some (of_number (k - 65793))
