-- (d): two entries for one field.
use mathlib.Core.Path.{◌≡◌, refl, ap, ap₂, ◌∙◌}
use mathlib.Core.Bool.{Bool, true, false, ◌&&◌, ◌||◌}
use mathlib.Core.List.{List, [], ◌∷◌, ◌++◌}
use mathlib.Core.Logic.{⊎_elim}
use Prim.Native.Nat.{ℕ, zero, suc, ◌+◌, ◌≤◌, ◌<◌}
use native.Mathlib.Omega.{arith}
use lib.Dec.{eqb}
use borrow.Author.Tests.{eq-eqb}
use Rattle.rules.specs.Base.{any}
use Rattle.rules.specs.Syntax.{var}
use Rattle.rules.specs.State.{Permission, Equality, exceed, links, differ, two_entries}
use Rattle.rules.proofs.Lists.{decide_eq}
use Rattle.check_equality.specs.Keys.{term_of}
use Rattle.check_equality.specs.Listing.{listed}
use Rattle.check_equality.proofs.Listing.{any_append, listed_more, or-true}
use Rattle.check_inequality.proofs.Searches.{any_false, any-places}

shuffle : (a x b c : Bool) → ((a || (x || false)) || (b || c)) ≡ ((a || b) || (x || c))
shuffle true x b c = refl
shuffle false true true c = refl
shuffle false true false c = refl
shuffle false false true c = refl
shuffle false false false c = refl

module _ (◌~◌ : Equality) (t u : ℕ) where
  infixl 40 ◌~◌
  pub two_none : (f : ℕ → Permission) → two_entries ◌~◌ (listed f 0) (term_of t) (term_of u) ≡ false
  unfolding two_entries listed
  two_none f = refl

  two-append :
      (l : List Permission) (q : Permission) →
      two_entries ◌~◌ (l ++ (q ∷ [])) (term_of t) (term_of u) ≡ (two_entries ◌~◌ l (term_of t) (term_of u) || any (λ p. differ ◌~◌ p q (term_of t) (term_of u)) l)
  unfolding two_entries any
  two-append [] q = refl
  two-append (p ∷ l) q =
      ap₂ (λ (x y : Bool). x || y) (any_append (λ q. differ ◌~◌ p q (term_of t) (term_of u)) l (q ∷ [])) (two-append l q)
      ∙ shuffle (any (λ q. differ ◌~◌ p q (term_of t) (term_of u)) l) (differ ◌~◌ p q (term_of t) (term_of u)) (two_entries ◌~◌ l (term_of t) (term_of u)) (any (λ p. differ ◌~◌ p q (term_of t) (term_of u)) l)

  pub two-more :
      (f : ℕ → Permission) (i : ℕ) →
      two_entries ◌~◌ (listed f (i + 1)) (term_of t) (term_of u)
      ≡ (two_entries ◌~◌ (listed f i) (term_of t) (term_of u) || any (λ p. differ ◌~◌ p (f i) (term_of t) (term_of u)) (listed f i))
  two-more f i = ap (λ (l : List Permission). two_entries ◌~◌ l (term_of t) (term_of u)) (listed_more f i) ∙ two-append (listed f i) (f i)

  -- one more entry, with no other for it
  pub two_past :
      (f : ℕ → Permission) (i : ℕ) → two_entries ◌~◌ (listed f i) (term_of t) (term_of u) ≡ false →
      any (λ p. differ ◌~◌ p (f i) (term_of t) (term_of u)) (listed f i) ≡ false → two_entries ◌~◌ (listed f (i + 1)) (term_of t) (term_of u) ≡ false
  two_past f i e d = two-more f i ∙ rw (e, d)

  two-on : (f : ℕ → Permission) (n i : ℕ) → i ≤ n → two_entries ◌~◌ (listed f i) (term_of t) (term_of u) ≡ true → two_entries ◌~◌ (listed f n) (term_of t) (term_of u) ≡ true
  unfolding listed
  two-on f zero i h e = let d : i ≡ 0 = omega arith in rw d at e
  two-on f (suc n) i h e = ⊎_elim here (λ d. there (two-on f n i (omega arith) e)) (decide_eq i (suc n))
    where
      here : i ≡ suc n → two_entries ◌~◌ (listed f n ++ (f n ∷ [])) (term_of t) (term_of u) ≡ true
      here d = rw d at e

      there : two_entries ◌~◌ (listed f n) (term_of t) (term_of u) ≡ true → two_entries ◌~◌ (listed f n ++ (f n ∷ [])) (term_of t) (term_of u) ≡ true
      there d = two-append (listed f n) (f n) ∙ rw d

  -- an entry that has another
  pub two-found :
      (f : ℕ → Permission) (n i : ℕ) → i < n → any (λ p. differ ◌~◌ p (f i) (term_of t) (term_of u)) (listed f i) ≡ true →
      two_entries ◌~◌ (listed f n) (term_of t) (term_of u) ≡ true
  two-found f n i h e = two-on f n (i + 1) (omega arith) (two-more f i ∙ rw e (or-true (two_entries ◌~◌ (listed f i) (term_of t) (term_of u))))

  -- an entry whose variable is ~ neither
  pub two-neither :
      (q : Permission) (l : List Permission) → (var q.variable ~ term_of t) ≡ false → (var q.variable ~ term_of u) ≡ false →
      any (λ p. differ ◌~◌ p q (term_of t) (term_of u)) l ≡ false
  unfolding differ links
  two-neither q l e d = any_false _ l (λ p. rw (e, d) (none (eqb p.field q.field) (exceed p.permit q.permit) (var p.variable ~ term_of t) (var p.variable ~ term_of u)))
    where
      none : (a x b c : Bool) → (a && (x && ((b && false) || (c && false)))) ≡ false
      none true true true true = refl
      none true true true false = refl
      none true true false true = refl
      none true true false false = refl
      none true false b c = refl
      none false x b c = refl

  -- an entry with one before it, neither of a variable ~ the one term
  apart-t : (p q : Permission) → (var p.variable ~ term_of t) ≡ false → (var q.variable ~ term_of t) ≡ false → differ ◌~◌ p q (term_of t) (term_of u) ≡ false
  unfolding differ links
  apart-t p q e d = rw (e, d) (none (eqb p.field q.field) (exceed p.permit q.permit) (var p.variable ~ term_of u))
    where
      none : (a x c : Bool) → (a && (x && (c && false))) ≡ false
      none true true true = refl
      none true true false = refl
      none true false c = refl
      none false x c = refl

  apart-u : (p q : Permission) → (var p.variable ~ term_of u) ≡ false → (var q.variable ~ term_of u) ≡ false → differ ◌~◌ p q (term_of t) (term_of u) ≡ false
  unfolding differ links
  apart-u p q e d = rw (e, d) (none (eqb p.field q.field) (exceed p.permit q.permit) (var p.variable ~ term_of t))
    where
      none : (a x c : Bool) → (a && (x && ((c && false) || false))) ≡ false
      none true true true = refl
      none true true false = refl
      none true false c = refl
      none false x c = refl

  two-places :
      (f : ℕ → Permission) (n : ℕ) → ((i j : ℕ) → i < n → j < i → differ ◌~◌ (f j) (f i) (term_of t) (term_of u) ≡ false) →
      two_entries ◌~◌ (listed f n) (term_of t) (term_of u) ≡ false
  two-places f zero h = two_none f
  two-places f (suc n) h =
      let e : n + 1 ≡ suc n = omega arith in
      rw e at (two_past f n (two-places f n (λ i j k l. h i j (omega arith) l)) (any-places _ f n (λ j l. h n j (omega arith) l)))

  -- no entry is of a variable ~ the one term
  pub two-without-t :
      (f : ℕ → Permission) (n : ℕ) → ((i : ℕ) → i < n → (var (f i).variable ~ term_of t) ≡ false) → two_entries ◌~◌ (listed f n) (term_of t) (term_of u) ≡ false
  two-without-t f n h = two-places f n (λ i j k l. apart-t (f j) (f i) (h j (omega arith)) (h i k))

  pub two-without-u :
      (f : ℕ → Permission) (n : ℕ) → ((i : ℕ) → i < n → (var (f i).variable ~ term_of u) ≡ false) → two_entries ◌~◌ (listed f n) (term_of t) (term_of u) ≡ false
  two-without-u f n h = two-places f n (λ i j k l. apart-u (f j) (f i) (h j (omega arith)) (h i k))

  -- entries of variables that are ~ neither
  pub two-unnamed :
      (f : ℕ → Permission) (q : Permission) (n : ℕ) → ((i : ℕ) → i < n → (var (f i).variable ~ term_of t) ≡ false) →
      ((i : ℕ) → i < n → (var (f i).variable ~ term_of u) ≡ false) → any (λ p. differ ◌~◌ p q (term_of t) (term_of u)) (listed f n) ≡ false
  unfolding differ links
  two-unnamed f q n h g = any-places _ f n (λ i l. rw (h i l, g i l) (none (eqb (f i).field q.field) (exceed (f i).permit q.permit)))
    where
      none : (a x : Bool) → (a && (x && false)) ≡ false
      none true true = refl
      none true false = refl
      none false x = refl

  pub pair-links :
      (k l : Permission) (p q : Bool) → k.field ≡ l.field → true ≡ exceed k.permit l.permit → p ≡ (var l.variable ~ term_of t) → q ≡ (var l.variable ~ term_of u) →
      (((var k.variable ~ term_of t) && q) || ((var k.variable ~ term_of u) && p)) ≡ differ ◌~◌ k l (term_of t) (term_of u)
  unfolding differ links
  pair-links k l p q e h d c = rw (eq-eqb k.field l.field e, ← h, d, c)

  -- two `read`
  pub pair_reads : (k l : Permission) → false ≡ exceed k.permit l.permit → false ≡ differ ◌~◌ k l (term_of t) (term_of u)
  unfolding differ
  pair_reads k l h = rw (← h) (none (eqb k.field l.field))
    where
      none : (a : Bool) → false ≡ (a && false)
      none true = refl
      none false = refl
