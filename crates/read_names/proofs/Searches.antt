-- Laws of the search for the first row that passes a test.
use mathlib.Core.Path.{◌≡◌, refl, sym, ap, subst, ◌∙◌}
use mathlib.Core.Bool.{Bool, true, false, cond, ◌&&◌, ◌||◌, and-false}
use mathlib.Core.List.{List, [], ◌∷◌, ◌++◌}
use mathlib.Core.Option.{some}
use Prim.Native.Nat.{ℕ, zero, suc, ◌+◌, ◌-◌, ◌≤◌, ◌<◌}
use native.Mathlib.Omega.{arith}
use native.Mathlib.Nat.{add-zero}
use lib.Dec.{eqb, ltb, eqb-zero-suc, eqb-suc-zero, eqb-suc-suc, leb-suc-suc}
use lib.ListN.{length, get_or}
use borrow.Author.Tests.{lt-ltb}
use Rattle.rules.specs.Base.{Name, eq_name, any, first, index, with_default}
use Rattle.tables.specs.Decode.{run}
use Rattle.tables.proofs.Runs.{run_length}

-- THE SEARCH, ONE STEP: the first of n rows from `from` on that passes p stands i after, plus where it stands among those from i on
module _ {A : Type 0} (p : A → Bool) (f : ℕ → A) (from n : ℕ) where
  abbrev pub At : ℕ → Type 0
  At i = i + index p (run f (from + i) (n - i)) ≡ index p (run f from n)

  pub here : (i : ℕ) → At i → i < n → p (f (from + i)) ≡ true → i ≡ index p (run f from n)
  unfolding run index
  here i h l e =
      let z : n - i ≡ suc (n - suc i) = omega arith in
      let q : index p (run f (from + i) (n - i)) ≡ 0 = rw (z, e) in
      omega (arith, h, q)

  pub on : (i : ℕ) → At i → i < n → p (f (from + i)) ≡ false → At (i + 1)
  unfolding run index
  on i h l e =
      let z : n - i ≡ suc (n - (i + 1)) = omega arith in
      let s : from + (i + 1) ≡ suc (from + i) = omega arith in
      let q : index p (run f (from + i) (n - i)) ≡ suc (index p (run f (from + (i + 1)) (n - (i + 1)))) = rw (z, e, s) in
      omega (arith, h, q)

  on-all :
      (d i j : ℕ) → i + d ≡ j → j ≤ n → ((k : ℕ) → i ≤ k → k < j → p (f (from + k)) ≡ false) → At i → At j
  on-all zero i j e l h a = let z : i ≡ j = omega arith in subst At z a
  on-all (suc d) i j e l h a =
      on-all d (i + 1) j (omega arith) l (λ k b c. h k (omega arith) c) (on i a (omega arith) (h i (omega arith) (omega arith)))

  -- over several rows at once
  pub past : (i j : ℕ) → i ≤ j → j ≤ n → ((k : ℕ) → i ≤ k → k < j → p (f (from + k)) ≡ false) → At i → At j
  past i j m = on-all (j - i) i j (omega arith)

  pub over : (i : ℕ) → At i → n ≤ i → i ≡ index p (run f from n)
  unfolding run index
  over i h l =
      let z : n - i ≡ 0 = omega arith in
      let q : index p (run f (from + i) (n - i)) ≡ 0 = rw z in
      omega (arith, h, q)

-- THE SEARCH AS A WHOLE
step : {A : Type 0} (P : A → Type 0) (q : Bool) {a b : A} → (q ≡ true → P a) → (q ≡ false → P b) → P (cond q a b)
step P true t f = t refl
step P false t f = f refl

module _ {A : Type 0} (p : A → Bool) where
  pub any-index : (l : List A) → any p l ≡ ltb (index p l) (length l)
  unfolding any index
  any-index [] = refl
  any-index (a ∷ l) = go (p a) (any-index l)
    where
      go : (q : Bool) → any p l ≡ ltb (index p l) (length l) → (q || any p l) ≡ ltb (cond q 0 (suc (index p l))) (suc (length l))
      go true e = sym (lt-ltb 0 (suc (length l)) (omega arith))
      go false e = e ∙ sym (leb-suc-suc (suc (index p l)) (length l))

  pub first-index : (d : A) (l : List A) → with_default d (first p l) ≡ get_or l (index p l) d
  unfolding first index with_default
  first-index d [] = refl
  first-index d (a ∷ l) = go (p a) (first-index d l)
    where
      go :
          (q : Bool) → with_default d (first p l) ≡ get_or l (index p l) d →
          with_default d (cond q (some a) (first p l)) ≡ get_or (a ∷ l) (cond q 0 (suc (index p l))) d
      go true e = refl
      go false e = e

-- the same test of rows that are read in two ways
pub index_same :
    {A B : Type 0} (p : A → Bool) (q : B → Bool) (f : ℕ → A) (g : ℕ → B) (i j n : ℕ) →
    ((k : ℕ) → k < n → p (f (i + k)) ≡ q (g (j + k))) →
    index p (run f i n) ≡ index q (run g j n)
unfolding run index
index_same p q f g i j zero h = refl
index_same p q f g i j (suc n) h =
    let e : p (f i) ≡ q (g j) = rw (add-zero, add-zero) at (h 0 (omega arith)) in
    let r : index p (run f (suc i) n) ≡ index q (run g (suc j) n) =
    index_same p q f g (suc i) (suc j) n
    (λ k l.
    let a : suc i + k ≡ i + suc k = omega arith in
    let b : suc j + k ≡ j + suc k = omega arith in
    rw (a, b) (h (suc k) (omega arith))) in
    rw (e, r)

-- where the first that passes q is one of o too, it is the first that is both
pub index-both :
    {A : Type 0} (o q : A → Bool) (f : ℕ → A) (i n k : ℕ) → k ≡ index q (run f i n) → o (f (i + k)) ≡ true →
    k ≡ index (λ a. o a && q a) (run f i n)
unfolding run index
index-both o q f i zero k e h = e
index-both o q f i (suc n) k e h = go (q (f i)) (o (f i)) refl k e h (λ j m b. index-both o q f (suc i) n j m b)
  where
    go :
        (b d : Bool) → o (f i) ≡ d → (k : ℕ) → k ≡ cond b 0 (suc (index q (run f (suc i) n))) → o (f (i + k)) ≡ true →
        ((j : ℕ) → j ≡ index q (run f (suc i) n) → o (f (suc i + j)) ≡ true → j ≡ index (λ a. o a && q a) (run f (suc i) n)) →
        k ≡ cond (d && b) 0 (suc (index (λ a. o a && q a) (run f (suc i) n)))
    go true d c k e h g =
        let z : i + k ≡ i = omega (arith, e) in
        e ∙ sym (ap (λ r. cond (r && true) 0 (suc (index (λ a. o a && q a) (run f (suc i) n)))) (sym c ∙ (ap (λ j. o (f j)) (sym z) ∙ h)))
    go false d c k e h g =
        let z : suc i + index q (run f (suc i) n) ≡ i + k = omega (arith, e) in
        e ∙ (ap suc (g (index q (run f (suc i) n)) refl (ap (λ j. o (f j)) z ∙ h)) ∙ sym (ap (λ r. cond r 0 (suc (index (λ a. o a && q a) (run f (suc i) n)))) (and-false d)))

pub any-rows : {A : Type 0} (p : A → Bool) (f : ℕ → A) (i n : ℕ) → any p (run f i n) ≡ ltb (index p (run f i n)) n
any-rows p f i n = any-index p (run f i n) ∙ ap (ltb (index p (run f i n))) (run_length f i n)

-- FIRST, with a list after the rows
module _ {A : Type 0} (p : A → Bool) (f : ℕ → A) (rest : List A) where
  pub first_found :
      (i n k : ℕ) → k ≡ index p (run f i n) → k < n → first p (run f i n ++ rest) ≡ some (f (i + k))
  unfolding run index first
  first_found i zero k e l = absurd (omega arith)
  first_found i (suc n) k e l = go (p (f i)) k e l (λ j m. first_found (suc i) n j m)
    where
      go :
          (q : Bool) (k : ℕ) → k ≡ cond q 0 (suc (index p (run f (suc i) n))) → k < suc n →
          ((j : ℕ) → j ≡ index p (run f (suc i) n) → j < n → first p (run f (suc i) n ++ rest) ≡ some (f (suc i + j))) →
          cond q (some (f i)) (first p (run f (suc i) n ++ rest)) ≡ some (f (i + k))
      go true k e l h = let z : i + k ≡ i = omega (arith, e) in rw z
      go false k e l h =
          let z : suc i + index p (run f (suc i) n) ≡ i + k = omega (arith, e) in
          h (index p (run f (suc i) n)) refl (omega (arith, e)) ∙ ap (λ j. some (f j)) z

  pub first-none : (i n : ℕ) → n ≤ index p (run f i n) → first p (run f i n ++ rest) ≡ first p rest
  unfolding run index first
  first-none i zero l = refl
  first-none i (suc n) l = go (p (f i)) l (λ m. first-none (suc i) n m)
    where
      go :
          (q : Bool) → suc n ≤ cond q 0 (suc (index p (run f (suc i) n))) →
          (n ≤ index p (run f (suc i) n) → first p (run f (suc i) n ++ rest) ≡ first p rest) →
          cond q (some (f i)) (first p (run f (suc i) n ++ rest)) ≡ first p rest
      go true l h = absurd (omega arith)
      go false l h = h (omega arith)

-- NAMES
eqb_comm : (m n : ℕ) → eqb m n ≡ eqb n m
eqb_comm zero zero = refl
eqb_comm zero (suc n) = eqb-zero-suc n ∙ sym (eqb-suc-zero n)
eqb_comm (suc m) zero = eqb-suc-zero m ∙ sym (eqb-zero-suc m)
eqb_comm (suc m) (suc n) = eqb-suc-suc m n ∙ (eqb_comm m n ∙ sym (eqb-suc-suc n m))

pub name-comm : (x y : Name) → eq_name x y ≡ eq_name y x
unfolding eq_name
name-comm [] [] = refl
name-comm [] (b ∷ y) = refl
name-comm (a ∷ x) [] = refl
name-comm (a ∷ x) (b ∷ y) = rw (eqb_comm a b, name-comm x y)
