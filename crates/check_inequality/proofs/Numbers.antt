-- (b): different numbers.
use mathlib.Core.Path.{◌≡◌, refl, sym, ap, ap₂, ◌∙◌}
use mathlib.Core.Bool.{Bool, true, false, cond, not, ◌&&◌, ◌||◌}
use mathlib.Core.List.{List, [], ◌∷◌, ◌++◌}
use mathlib.Core.Logic.{inl, ⊎_elim}
use Prim.Native.Nat.{ℕ, zero, suc, ◌+◌, ◌*◌, ◌-◌, ◌/◌, ◌%◌, ◌≤◌, ◌<◌}
use native.Mathlib.Omega.{arith}
use lib.Dec.{eqb, ltb, leb}
use lib.ListN.{length, get_or, set, length-set}
use lib.Seq.{get_or-set_same, get_or-set_other}
use borrow.Author.Tests.{eq-eqb, ne_eqb, lt-ltb, leb-true, leb-false}
use Rattle.rules.specs.Base.{any}
use Rattle.rules.specs.Limits.{most_facts}
use Rattle.rules.specs.Syntax.{num, null, var, path}
use Rattle.rules.specs.State.{Fact, Term, Equality, representative, equal_by, numbers, terms_of, different_numbers}
use Rattle.rules.proofs.Lists.{decide_eq}
use Rattle.check_equality.specs.Layout.{slots, bytes}
use Rattle.check_equality.specs.Keys.{term_of}
use Rattle.check_equality.specs.Listing.{listed}
use Rattle.check_equality.specs.Links.{Labelled, Decides, alike_by}
use Rattle.check_equality.proofs.Keys.{of_number}
use Rattle.check_equality.proofs.Labels.{alike}
use Rattle.check_state.specs.States.{fact_at, facts_in}
use Rattle.check_state.specs.Questions.{places}
use Rattle.check_inequality.specs.Ways.{number_like, other_like, other_number, two_numbers}
use Rattle.check_inequality.proofs.Searches.{any_same}

-- the numbers among terms, one term at a time
one_number : (ℕ → Bool) → Term → Bool
one_number p (num n) = p n
one_number p null = false
one_number p (var x) = false
one_number p (path x f) = false

any-numbers : (p : ℕ → Bool) (ts : List Term) → any p (numbers ts) ≡ any (one_number p) ts
unfolding any numbers one_number
any-numbers p [] = refl
any-numbers p (num n ∷ ts) = ap (λ (b : Bool). p n || b) (any-numbers p ts)
any-numbers p (null ∷ ts) = any-numbers p ts
any-numbers p (var x ∷ ts) = any-numbers p ts
any-numbers p (path x f ∷ ts) = any-numbers p ts

no_number : (p : ℕ → Bool) (k : ℕ) → k < 65793 → one_number p (term_of k) ≡ false
unfolding term_of one_number
no_number p k h = rw (lt-ltb k 65793 h) (small (ltb k 256) (eqb k 256))
  where
    small : (a b : Bool) → one_number p (cond a (var k) (cond b null (path ((k - 257) / 256) ((k - 257) % 256)))) ≡ false
    small true b = refl
    small false true = refl
    small false false = refl

a-number : (p : ℕ → Bool) (k : ℕ) → 65793 ≤ k → one_number p (term_of k) ≡ p (k - 65793)
unfolding one_number
a-number p k h =
    let e : k ≡ 65793 + (k - 65793) = omega arith in
    ap (λ (j : ℕ). one_number p (term_of j)) e ∙ ap (one_number p) (of_number (k - 65793))

number_at : (p : ℕ → Bool) (k : ℕ) → one_number p (term_of k) ≡ (leb 65793 k && p (k - 65793))
number_at p k = go (leb 65793 k) refl
  where
    go : (c : Bool) → leb 65793 k ≡ c → one_number p (term_of k) ≡ (c && p (k - 65793))
    go true e = a-number p k (leb-true 65793 k e)
    go false e = no_number p k (leb-false 65793 k e)

-- the sides of the facts, after two terms
terms-append : (fs : List Fact) (f : Fact) → terms_of (fs ++ (f ∷ [])) ≡ terms_of fs ++ (f.left ∷ f.right ∷ [])
unfolding terms_of
terms-append [] f = refl
terms-append (g ∷ fs) f = ap (λ (l : List Term). g.left ∷ g.right ∷ l) (terms-append fs f)

terms-listed :
    (g : ℕ → Term) (F : ℕ → Fact) (n : ℕ) → ((i : ℕ) → i < n → g (2 + 2 * i) ≡ (F i).left) →
    ((i : ℕ) → i < n → g (3 + 2 * i) ≡ (F i).right) → listed g (2 + 2 * n) ≡ g 0 ∷ g 1 ∷ terms_of (listed F n)
unfolding listed terms_of
terms-listed g F zero hl hr = refl
terms-listed g F (suc n) hl hr =
    let e : 2 + 2 * suc n ≡ suc (suc (2 + 2 * n)) = omega arith in
    let d : suc (2 + 2 * n) ≡ 3 + 2 * n = omega arith in
    ap (λ (k : ℕ). listed g k) e
    ∙ ap (λ (k : ℕ). (listed g (2 + 2 * n) ++ (g (2 + 2 * n) ∷ [])) ++ (g k ∷ [])) d
    ∙ rw (terms-listed g F n (λ i h. hl i (omega arith)) (λ i h. hr i (omega arith)), hl n (omega arith), hr n (omega arith), terms-append (listed F n) (F n))
    (ap (λ (l : List Term). g 0 ∷ g 1 ∷ l) (two-more (terms_of (listed F n)) (F n).left (F n).right))
  where
    two-more : (l : List Term) (a b : Term) → (l ++ (a ∷ [])) ++ (b ∷ []) ≡ l ++ (a ∷ b ∷ [])
    two-more [] a b = refl
    two-more (c ∷ l) a b = ap (λ (r : List Term). c ∷ r) (two-more l a b)

and-swap : (a b c : Bool) → (a && (b && c)) ≡ (b && (a && c))
and-swap true b c = refl
and-swap false true c = refl
and-swap false false c = refl

and-group : (a b c : Bool) → (a && (b && c)) ≡ ((a && b) && c)
and-group true b c = refl
and-group false b c = refl

module _
    {fs : List Fact} {key label : List ℕ} {m : ℕ} (D : Decides fs key label m) (low : m ≤ slots) (key' label' : List ℕ) (n : ℕ)
    (all : (i : ℕ) → i < n → Labelled key label m (get_or key' (14 + i) 0) (get_or label' (14 + i) 0))
  where
    infixl 40 ◌~◌
    abbrev ◌~◌ : Equality
    ◌~◌ = equal_by (representative fs)

    like : (t a i : ℕ) → Labelled key label m t a → i < n → (leb 65793 (get_or key' (14 + i) 0) && (num (get_or key' (14 + i) 0 - 65793) ~ term_of t)) ≡ number_like (get_or key' (14 + i) 0) (get_or label' (14 + i) 0) t a
    unfolding number_like
    like t a i w h = go (leb 65793 (get_or key' (14 + i) 0)) refl
      where
        go : (c : Bool) → leb 65793 (get_or key' (14 + i) 0) ≡ c → (c && (num (get_or key' (14 + i) 0 - 65793) ~ term_of t)) ≡ (c && alike_by (get_or key' (14 + i) 0) (get_or label' (14 + i) 0) t a)
        go true e =
            let k : ℕ = get_or key' (14 + i) 0 in
            let d : 65793 + (k - 65793) ≡ k = omega (arith, leb-true 65793 k e) in
            ap (λ (x : Term). x ~ term_of t) (sym (of_number (k - 65793)) ∙ ap term_of d) ∙ alike D low _ _ t a (all i h) w
        go false e = refl

    other : (u b v j : ℕ) → Labelled key label m u b → j ≡ 65793 + v → any (λ k. not (eqb v k) && (num k ~ term_of u)) (numbers (listed (λ i. term_of (get_or key' (14 + i) 0)) n)) ≡ other_number key' label' n u b j
    unfolding other_number other_like
    other u b v j w e =
        any-numbers _ (listed (λ i. term_of (get_or key' (14 + i) 0)) n)
        ∙ any_same _ _ (λ i. term_of (get_or key' (14 + i) 0)) (λ i. i) n λ i h.
        number_at _ (get_or key' (14 + i) 0)
        ∙ and-swap (leb 65793 (get_or key' (14 + i) 0)) (not (eqb v (get_or key' (14 + i) 0 - 65793))) (num (get_or key' (14 + i) 0 - 65793) ~ term_of u)
        ∙ at_place (get_or key' (14 + i) 0) (num (get_or key' (14 + i) 0 - 65793) ~ term_of u) (number_like (get_or key' (14 + i) 0) (get_or label' (14 + i) 0) u b) (like u b i w h)
      where
        at_place : (k : ℕ) (x y : Bool) → (leb 65793 k && x) ≡ y → (not (eqb v (k - 65793)) && (leb 65793 k && x)) ≡ (not (eqb j k) && y)
        at_place k x y d = go (leb 65793 k) refl d
          where
            numbers-agree : 65793 ≤ k → eqb v (k - 65793) ≡ eqb j k
            numbers-agree h = ⊎_elim (λ p. eq-eqb v (k - 65793) p ∙ sym (eq-eqb j k (omega arith))) (λ p. ne_eqb v (k - 65793) p ∙ sym (ne_eqb j k (λ q. p (omega arith)))) (decide_eq v (k - 65793))

            off : (a b : Bool) → (a && false) ≡ (b && false)
            off true true = refl
            off true false = refl
            off false true = refl
            off false false = refl

            go : (c : Bool) → leb 65793 k ≡ c → (c && x) ≡ y → (not (eqb v (k - 65793)) && (c && x)) ≡ (not (eqb j k) && y)
            go true h d = ap₂ (λ (a b : Bool). not a && b) (numbers-agree (leb-true 65793 k h)) d
            go false h d = off (not (eqb v (k - 65793))) (not (eqb j k)) ∙ ap (λ (b : Bool). not (eqb j k) && b) d

    pub numbers-law : (t a u b : ℕ) → Labelled key label m t a → Labelled key label m u b → (gs : List Fact) → listed (λ i. term_of (get_or key' (14 + i)
        0)) n ≡ term_of t ∷ term_of u ∷ terms_of gs → any (two_numbers key' label' n t a u b) (places n) ≡ different_numbers ◌~◌ gs (term_of t) (term_of u)
    unfolding different_numbers two_numbers
    numbers-law t a u b wt wu gs e =
        sym (rw (← e) (any-numbers _ (listed (λ i. term_of (get_or key' (14 + i) 0)) n)
        ∙ any_same _ _ (λ i. term_of (get_or key' (14 + i) 0)) (λ i. i) n λ i h.
        number_at _ (get_or key' (14 + i) 0) ∙ outer i h))
      where
        outer : (i : ℕ) → i < n → (leb 65793 (get_or key' (14 + i) 0) && ((num (get_or key' (14 + i) 0 - 65793) ~ term_of t) && any (λ k. not (eqb (get_or
            key' (14 + i) 0 - 65793) k) && (num k ~ term_of u)) (numbers (listed (λ i. term_of (get_or key' (14 + i) 0)) n)))) ≡ (number_like (get_or key' (14 +
            i) 0) (get_or label' (14 + i) 0) t a && other_number key' label' n u b (get_or key' (14 + i) 0))
        outer i h = and-group (leb 65793 (get_or key' (14 + i) 0)) (num (get_or key' (14 + i) 0 - 65793) ~ term_of t) (any (λ k. not (eqb (get_or key' (14 +
            i) 0 - 65793) k) && (num k ~ term_of u)) (numbers (listed (λ i. term_of (get_or key' (14 + i) 0)) n))) ∙ go (leb 65793 (get_or key' (14 + i) 0))
            refl (like t a i wt h)
          where
            go : (c : Bool) → leb 65793 (get_or key' (14 + i) 0) ≡ c → (c && (num (get_or key' (14 + i) 0 - 65793) ~ term_of t)) ≡ number_like (get_or key'
                (14 + i) 0) (get_or label' (14 + i) 0) t a → ((c && (num (get_or key' (14 + i) 0 - 65793) ~ term_of t)) && any (λ k. not (eqb (get_or key' (14 +
                i) 0 - 65793) k) && (num k ~ term_of u)) (numbers (listed (λ i. term_of (get_or key' (14 + i) 0)) n))) ≡ (number_like (get_or key' (14 + i) 0)
                (get_or label' (14 + i) 0) t a && other_number key' label' n u b (get_or key' (14 + i) 0))
            go true g d = ap₂ (λ (x y : Bool). x && y) d (other u b (get_or key' (14 + i) 0 - 65793) (get_or key' (14 + i) 0) wu (omega (arith, leb-true 65793 (get_or key' (14 + i) 0) g)))
            go false g d = ap (λ (x : Bool). x && other_number key' label' n u b (get_or key' (14 + i) 0)) d

-- the two terms stand in the slots 14 and 15
module _
    (key label : List ℕ) (n t a u b : ℕ) (h : n ≤ most_facts) (hk : length key ≡ slots) (hl : length label ≡ bytes)
    (wt : Labelled key label (16 + 2 * n) t a) (wu : Labelled key label (16 + 2 * n) u b)
  where
    at-14 : (l : List ℕ) (x y : ℕ) → slots ≤ length l → get_or (set (set l 14 x) 15 y) 14 0 ≡ x
    at-14 l x y e = get_or-set_other (set l 14 x) 15 14 y 0 (omega arith) ∙ get_or-set_same l 14 x 0 (omega arith)

    at-15 : (l : List ℕ) (x y : ℕ) → slots ≤ length l → get_or (set (set l 14 x) 15 y) 15 0 ≡ y
    at-15 l x y e = get_or-set_same (set l 14 x) 15 y 0 (rw (length-set l 14 x) (omega arith))

    past-15 : (l : List ℕ) (x y i : ℕ) → 15 < i → get_or (set (set l 14 x) 15 y) i 0 ≡ get_or l i 0
    past-15 l x y i g = get_or-set_other (set l 14 x) 15 i y 0 (omega arith) ∙ get_or-set_other l 14 i x 0 (omega arith)

    all-labelled : (i : ℕ) → i < 2 + 2 * n → Labelled key label (16 + 2 * n) (get_or (set (set key 14 t) 15 u) (14 + i) 0) (get_or (set (set label 14 a) 15 b) (14 + i) 0)
    all-labelled zero g = rw (at-14 key t u (omega arith), at-14 label a b (omega arith)) wt
    all-labelled (suc zero) g = rw (at-15 key t u (omega arith), at-15 label a b (omega arith)) wu
    all-labelled (suc (suc i)) g = inl (record { place = 14 + suc (suc i); within = omega arith; is = sym (past-15 key t u (14 + suc (suc i)) (omega arith)); shown = past-15 label a b (14 + suc (suc i)) (omega arith) })

    left_at : (i : ℕ) → term_of (get_or (set (set key 14 t) 15 u) (14 + (2 + 2 * i)) 0) ≡ term_of (get_or key (16 + 2 * i) 0)
    left_at i = let e : 14 + (2 + 2 * i) ≡ 16 + 2 * i = omega arith in ap term_of (past-15 key t u (14 + (2 + 2 * i)) (omega arith) ∙ ap (λ (j : ℕ). get_or key j 0) e)

    right-at : (i : ℕ) → term_of (get_or (set (set key 14 t) 15 u) (14 + (3 + 2 * i)) 0) ≡ term_of (get_or key (17 + 2 * i) 0)
    right-at i = let e : 14 + (3 + 2 * i) ≡ 17 + 2 * i = omega arith in ap term_of (past-15 key t u (14 + (3 + 2 * i)) (omega arith) ∙ ap (λ (j : ℕ). get_or key j 0) e)

    pub apart-law :
        Decides (facts_in key label n) key label (16 + 2 * n) →
        any (two_numbers (set (set key 14 t) 15 u) (set (set label 14 a) 15 b) (2 + 2 * n) t a u b) (places (2 + 2 * n))
        ≡ different_numbers (equal_by (representative (facts_in key label n))) (facts_in key label n) (term_of t) (term_of u)
    apart-law D =
        numbers-law D (omega arith) (set (set key 14 t) 15 u) (set (set label 14 a) 15 b) (2 + 2 * n) all-labelled t a u b wt wu (facts_in key label n)
        (terms-listed (λ i. term_of (get_or (set (set key 14 t) 15 u) (14 + i) 0)) (fact_at key label) n (λ i g. left_at i) (λ i g. right-at i)
        ∙ rw (at-14 key t u (omega arith), at-15 key t u (omega arith)))
