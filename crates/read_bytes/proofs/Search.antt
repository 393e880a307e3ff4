-- Laws of `up_to`, `all` and `eq_name`: what a search or a comparison has found, step by step and as a whole.
use mathlib.Core.Path.{◌≡◌, refl, sym, ap, ap₂, ◌∙◌}
use mathlib.Core.Bool.{Bool, true, false, not, cond, ◌&&◌, ◌||◌}
use mathlib.Core.List.{List, [], ◌∷◌, ◌++◌}
use Prim.Native.Nat.{ℕ, zero, suc, ◌+◌, ◌-◌, ◌≤◌, ◌<◌}
use native.Mathlib.Omega.{arith}
use native.Mathlib.Numerals.{add-one}
use native.Mathlib.Decide.{dec_lt}
use lib.Dec.{eqb, leb, eqb-suc-suc, eqb-zero-suc}
use lib.ListN.{length, get_or, drop, take, drop_of_length-le, length-drop}
use lib.Seq.{drop-cons, take_all}
use borrow.Author.Tests.{eqb-true, leb-true, eq-eqb}
use Rattle.rules.specs.Base.{Name, all, eq_name, between}
use Rattle.rules.specs.Text.{up_to}

-- TESTS
pub true-false : {A : Type 0} → true ≡ false → A
true-false e = absurd (let z : ◌≡◌ {A = ℕ} 0 1 = cc in omega arith)

pub both_true : (a b : Bool) → (a && b) ≡ true → (a ≡ true) × (b ≡ true)
both_true true b e = (refl, e)
both_true false b e = true-false (sym e)

pub and_both : (a b c : Bool) → (a && (b && c)) ≡ ((a && b) && c)
and_both true b c = refl
and_both false b c = refl

pub and-true : (q : Bool) → (q && true) ≡ q
and-true true = refl
and-true false = refl

pub and-false : (a : Bool) → (a && false) ≡ false
and-false true = refl
and-false false = refl

pub or-true : (a : Bool) → (a || true) ≡ true
or-true true = refl
or-true false = refl

pub or-false : (a b : Bool) → (a || b) ≡ false → (a ≡ false) × (b ≡ false)
or-false true b e = true-false e
or-false false b e = (refl, e)

pub between-true : (a z b : ℕ) → between a z b ≡ true → (a ≤ b) × (b ≤ z)
unfolding between
between-true a z b e = let q = both_true (leb a b) (leb b z) e in (leb-true _ _ q.0, leb-true _ _ q.1)

-- A SEARCH, ONE STEP
module _ (p : ℕ → Bool) (l : List ℕ) (i : ℕ) where
  pub up_to-here : i < length l → p (get_or l i 0) ≡ true → up_to p (drop i l) ≡ 0
  unfolding up_to
  up_to-here h e = rw (drop-cons l i 0 h, e)

  pub up_to-on : i < length l → p (get_or l i 0) ≡ false → up_to p (drop i l) ≡ suc (up_to p (drop (i + 1) l))
  unfolding up_to
  up_to-on h e = rw (add-one, drop-cons l i 0 h, e)

  pub up_to-end : length l ≤ i → up_to p (drop i l) ≡ 0
  unfolding up_to
  up_to-end h = rw (drop_of_length-le l {i = i} h)

-- A SEARCH AS A WHOLE
step : (P : ℕ → Type 0) (q : Bool) (m n : ℕ) → (q ≡ true → P m) → (q ≡ false → P n) → P (cond q m n)
step P true m n t f = t refl
step P false m n t f = f refl

module _ (p : ℕ → Bool) where
  pub up_to-within : (l : List ℕ) → up_to p l ≤ length l
  unfolding up_to
  up_to-within [] = omega arith
  up_to-within (b ∷ t) = let h = up_to-within t in step (λ n. n ≤ suc (length t)) (p b) 0 (suc (up_to p t)) (λ e. omega arith) (λ e. omega arith)

  -- the byte found is in the set, and those before it are not
  pub up_to-found : (l : List ℕ) → up_to p l < length l → p (get_or l (up_to p l) 0) ≡ true
  unfolding up_to
  up_to-found [] h = absurd (omega arith)
  up_to-found (b ∷ t) h =
      step (λ n. n < suc (length t) → p (get_or (b ∷ t) n 0) ≡ true) (p b) 0 (suc (up_to p t)) (λ e k. e) (λ e k. up_to-found t (omega arith)) h

  pub up_to-passed : (l : List ℕ) (k : ℕ) → k < up_to p l → p (get_or l k 0) ≡ false
  unfolding up_to
  up_to-passed [] k h = absurd (omega arith)
  up_to-passed (b ∷ t) zero h = step (λ n. 0 < n → p b ≡ false) (p b) 0 (suc (up_to p t)) (λ e k. absurd (omega arith)) (λ e k. e) h
  up_to-passed (b ∷ t) (suc k) h =
      step (λ n. suc k < n → p (get_or t k 0) ≡ false) (p b) 0 (suc (up_to p t)) (λ e j. absurd (omega arith)) (λ e j. up_to-passed t k (omega arith)) h

  -- and these two facts say where it is
  pub up_to-is :
      (l : List ℕ) (d : ℕ) → d ≤ length l → ((k : ℕ) → k < d → p (get_or l k 0) ≡ false) → (d < length l → p (get_or l d 0) ≡ true) →
      up_to p l ≡ d
  unfolding up_to
  up_to-is [] d h f t = omega arith
  up_to-is (b ∷ l) zero h f t = rw (t (omega arith))
  up_to-is (b ∷ l) (suc d) h f t =
      rw (f 0 (omega arith)) (ap suc (up_to-is l d (omega arith) (λ k j. f (suc k) (omega arith)) (λ j. t (omega arith))))

  -- what comes after does not shorten a search, and a search may start at any place before its end
  pub up_to-more : (l t : List ℕ) → up_to p l ≤ up_to p (l ++ t)
  unfolding up_to
  up_to-more [] t = omega arith
  up_to-more (b ∷ l) t = go (p b) (up_to-more l t)
    where
      go : (q : Bool) → up_to p l ≤ up_to p (l ++ t) → cond q 0 (suc (up_to p l)) ≤ cond q 0 (suc (up_to p (l ++ t)))
      go true h = omega arith
      go false h = omega arith

  pub up_to-jump : (l : List ℕ) (j : ℕ) → j ≤ up_to p l → up_to p l ≡ j + up_to p (drop j l)
  unfolding up_to
  up_to-jump l zero h = omega arith
  up_to-jump [] (suc j) h = absurd (omega arith)
  up_to-jump (b ∷ l) (suc j) h = go (p b) h (λ k. up_to-jump l j k)
    where
      go : (q : Bool) → suc j ≤ cond q 0 (suc (up_to p l)) → (j ≤ up_to p l → up_to p l ≡ j + up_to p (drop j l)) →
          cond q 0 (suc (up_to p l)) ≡ suc j + up_to p (drop j l)
      go true k r = absurd (omega arith)
      go false k r = omega (arith, r (omega arith))

  -- a search that came to k goes on, or ends there
  pub up_to-next : (l : List ℕ) (k : ℕ) → k ≤ up_to p l → k < length l → p (get_or l k 0) ≡ false → k < up_to p l
  up_to-next l k h g e =
      elim (dec_lt k (up_to p l)) [
        | yes m ↦ m
        | no m ↦ (let z : up_to p l ≡ k = omega arith in true-false (sym (up_to-found l (omega arith)) ∙ (ap (λ n. p (get_or l n 0)) z ∙ e)))
      ]

  pub up_to-ends : (l : List ℕ) (k : ℕ) → k ≤ up_to p l → (k < length l → p (get_or l k 0) ≡ true) → up_to p l ≡ k
  up_to-ends l k h t =
      elim (dec_lt k (up_to p l)) [
        | yes m ↦ true-false (sym (t (omega (arith, up_to-within l))) ∙ up_to-passed l k m)
        | no m ↦ omega arith
      ]

  -- what comes after its end does not matter to a search
  pub up_to-take : (l : List ℕ) (n : ℕ) → up_to p l ≤ n → up_to p (take n l) ≡ up_to p l
  unfolding up_to
  up_to-take [] zero h = refl
  up_to-take [] (suc n) h = refl
  up_to-take (b ∷ l) zero h = omega arith
  up_to-take (b ∷ l) (suc n) h = go (p b) h (λ k. up_to-take l n k)
    where
      go : (q : Bool) → cond q 0 (suc (up_to p l)) ≤ suc n → (up_to p l ≤ n → up_to p (take n l) ≡ up_to p l) →
          cond q 0 (suc (up_to p (take n l))) ≡ cond q 0 (suc (up_to p l))
      go true k r = refl
      go false k r = ap suc (r (omega arith))

-- a search for a smaller set goes at least as far
module _ (p q : ℕ → Bool) (part : (b : ℕ) → p b ≡ false → q b ≡ false) (l : List ℕ) where
  pub smaller-within : up_to p l ≤ up_to q l
  smaller-within =
      elim (dec_lt (up_to q l) (up_to p l)) [
        | yes m ↦ (let f : q (get_or l (up_to q l) 0) ≡ true = up_to-found q l (omega (arith, up_to-within p l)) in true-false (sym f ∙ part (get_or l (up_to q l) 0) (up_to-passed p l (up_to q l) m)))
        | no m ↦ omega arith
      ]

  pub smaller-end : up_to p l ≡ length l → up_to q l ≡ length l
  smaller-end e =
      up_to-is q l (length l) (omega arith) (λ k h. part (get_or l k 0) (up_to-passed p l k (omega (arith, e)))) (λ h. absurd (omega arith))

  pub smaller-here : up_to p l < length l → q (get_or l (up_to p l) 0) ≡ true → up_to q l ≡ up_to p l
  smaller-here h e =
      up_to-is q l (up_to p l) (omega arith) (λ k j. part (get_or l k 0) (up_to-passed p l k j)) (λ j. e)

  pub smaller-later : up_to p l < length l → q (get_or l (up_to p l) 0) ≡ false → up_to p l < up_to q l
  smaller-later h e =
      elim (dec_lt (up_to p l) (up_to q l)) [
        | yes m ↦ m
        | no m ↦ (let f : q (get_or l (up_to q l) 0) ≡ true = up_to-found q l (omega arith) in elim (dec_lt (up_to q l) (up_to p l)) [
          | yes n ↦ true-false (sym f ∙ part (get_or l (up_to q l) 0) (up_to-passed p l (up_to q l) n))
          | no n ↦ (let z : up_to q l ≡ up_to p l = omega arith in true-false (sym f ∙ (ap (λ k. q (get_or l k 0)) z ∙ e)))
        ])
      ]

-- a search that goes to the end shows `all`
all-case : (q a : Bool) (u n : ℕ) → a ≡ eqb u n → (q && a) ≡ eqb (cond (not q) 0 (suc u)) (suc n)
all-case true a u n e = e ∙ sym (eqb-suc-suc u n)
all-case false a u n e = sym (eqb-zero-suc n)

module _ (p : ℕ → Bool) where
  pub all-up_to : (l : List ℕ) → all p l ≡ eqb (up_to (λ b. not (p b)) l) (length l)
  unfolding all up_to
  all-up_to [] = refl
  all-up_to (b ∷ t) = all-case (p b) (all p t) (up_to (λ c. not (p c)) t) (length t) (all-up_to t)

  pub all_found : (l : List ℕ) (r : ℕ) → r ≡ 0 + up_to (λ b. not (p b)) l → all p l ≡ eqb r (length l)
  all_found l r e = let q : up_to (λ b. not (p b)) l ≡ r = omega (arith, e) in all-up_to l ∙ rw q

  pub all-at : (l : List ℕ) (i : ℕ) → all p l ≡ true → i < length l → p (get_or l i 0) ≡ true
  unfolding all
  all-at [] i e h = absurd (omega arith)
  all-at (b ∷ t) zero e h = (both_true (p b) (all p t) e).0
  all-at (b ∷ t) (suc i) e h = all-at t i (both_true (p b) (all p t) e).1 (omega arith)

  pub all_of : (l : List ℕ) → ((i : ℕ) → i < length l → p (get_or l i 0) ≡ true) → all p l ≡ true
  unfolding all
  all_of [] h = refl
  all_of (b ∷ t) h = rw (h 0 (omega arith), all_of t (λ i k. h (suc i) (omega arith)))

  pub all-front : (l t : List ℕ) → all p (l ++ t) ≡ true → all p l ≡ true
  unfolding all
  all-front [] t e = refl
  all-front (b ∷ l) t e = let q = both_true (p b) (all p (l ++ t)) e in rw (q.0, all-front l t q.1)

  pub not-all : (l : List ℕ) (i : ℕ) → i < length l → p (get_or l i 0) ≡ false → all p l ≡ false
  not-all l i h e = go (all p l) refl
    where
      go : (q : Bool) → all p l ≡ q → q ≡ false
      go true z = sym (all-at l i z h) ∙ e
      go false z = refl

-- COMPARISON

pub rest_end : (a b : Name) (i : ℕ) → length a ≤ i → length b ≤ i → drop i a ≡ drop i b
rest_end a b i h k = rw (drop_of_length-le a {i = i} h, drop_of_length-le b {i = i} k)

pub same-is : (a b : Name) → eq_name a b ≡ true → a ≡ b
unfolding eq_name
same-is [] [] e = refl
same-is [] (y ∷ b) e = true-false (sym e)
same-is (x ∷ a) [] e = true-false (sym e)
same-is (x ∷ a) (y ∷ b) e =
    let q = both_true (eqb x y) (eq_name a b) e in ap₂ ◌∷◌ (eqb-true x y q.0) (same-is a b q.1)

pub same_refl : (a : Name) → eq_name a a ≡ true
unfolding eq_name
same_refl [] = refl
same_refl (x ∷ a) = rw (eq-eqb x x refl, same_refl a)

pub not_same : (a b : Name) → (a ≡ b → ⊥) → eq_name a b ≡ false
not_same a b n = go (eq_name a b) refl
  where
    go : (q : Bool) → eq_name a b ≡ q → q ≡ false
    go true e = absurd (n (same-is a b e))
    go false e = refl

-- the rest of a field from k on, as a part of it
pub rest_part : (w : Name) (k : ℕ) → take (length w - k) (drop k w) ≡ drop k w
rest_part w k = take_all (length w - k) (drop k w) (omega (arith, length-drop k w))
