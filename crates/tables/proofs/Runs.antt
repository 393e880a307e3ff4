-- Laws of a list that is made place by place.
use mathlib.Core.Path.{◌≡◌, refl, sym, ap, ◌∙◌}
use mathlib.Core.Bool.{Bool, true, false}
use mathlib.Core.List.{List, [], ◌∷◌, ◌++◌}
use mathlib.Core.Logic.{◌⊎◌, inl, inr, ⊎_elim}
use Prim.Native.Nat.{ℕ, zero, suc, ◌+◌, ◌≤◌, ◌<◌}
use native.Mathlib.Nat.{add-zero}
use native.Mathlib.Omega.{arith}
use lib.Dec.{ltb}
use lib.ListN.{length, get_or, length-append}
use borrow.Author.Tests.{ltb-true, ltb-false}
use Rattle.rules.specs.Reading.{on_last}
use Rattle.tables.specs.Decode.{run}

pub less-or-not : (m n : ℕ) (b : Bool) → ltb m n ≡ b → (m < n) ⊎ (n ≤ m)
less-or-not m n true e = inl (ltb-true m n e)
less-or-not m n false e = inr (ltb-false m n e)

pub three_ways : (m n : ℕ) → (m ≡ n) ⊎ ((m < n) ⊎ (n < m))
three_ways m n =
    ⊎_elim (λ l. inr (inl l))
    (λ g. ⊎_elim (λ l. inr (inr l)) (λ l. inl (omega arith)) (less-or-not n m (ltb n m) refl))
    (less-or-not m n (ltb m n) refl)

module _ {A : Type 0} where
  pub run_length : (f : ℕ → A) (i n : ℕ) → length (run f i n) ≡ n
  unfolding run
  run_length f i zero = refl
  run_length f i (suc n) = ap suc (run_length f (suc i) n)

  pub run_more : (f : ℕ → A) (i n : ℕ) → run f i (suc n) ≡ run f i n ++ (f (i + n) ∷ [])
  unfolding run
  run_more f i zero = ap (λ (k : ℕ). f k ∷ []) (sym (add-zero i))
  run_more f i (suc n) =
      ap (λ (l : List A). f i ∷ l)
      (run_more f (suc i) n ∙ ap (λ (k : ℕ). run f (suc i) n ++ (f k ∷ [])) (let e : suc i + n ≡ i + suc n = omega arith in e))

  -- the same elements, also from another place
  pub run_moved :
      (f g : ℕ → A) (i j n : ℕ) → ((k : ℕ) → k < n → f (i + k) ≡ g (j + k)) → run f i n ≡ run g j n
  unfolding run
  run_moved f g i j zero h = refl
  run_moved f g i j (suc n) h =
      let e : f i ≡ g j = rw (add-zero, add-zero) at (h 0 (omega arith)) in
      let r : run f (suc i) n ≡ run g (suc j) n =
      run_moved f g (suc i) (suc j) n
      (λ k l.
      let a : suc i + k ≡ i + suc k = omega arith in
      let b : suc j + k ≡ j + suc k = omega arith in
      rw (a, b) (h (suc k) (omega arith))) in
      rw (e, r)

  pub run-same :
      (f g : ℕ → A) (i n : ℕ) → ((k : ℕ) → i ≤ k → k < i + n → g k ≡ f k) → run g i n ≡ run f i n
  run-same f g i n h = run_moved g f i i n (λ k l. h (i + k) (omega arith) (omega arith))

  pub run-get : (f : ℕ → A) (i n k : ℕ) (d : A) → k < n → get_or (run f i n) k d ≡ f (i + k)
  unfolding run
  run-get f i zero k d l = absurd (omega arith)
  run-get f i (suc n) zero d l = ap f (sym (add-zero i))
  run-get f i (suc n) (suc k) d l =
      run-get f (suc i) n k d (omega arith) ∙ ap f (let e : suc i + k ≡ i + suc k = omega arith in e)

  pub run_past : (f : ℕ → A) (i n k : ℕ) (d : A) → n ≤ k → get_or (run f i n) k d ≡ d
  unfolding run
  run_past f i zero k d l = refl
  run_past f i (suc n) zero d l = absurd (omega arith)
  run_past f i (suc n) (suc k) d l = run_past f (suc i) n k d (omega arith)

  last_end : (φ : A → A) (l : List A) (a : A) → on_last φ (l ++ (a ∷ [])) ≡ l ++ (φ a ∷ [])
  unfolding on_last
  last_end φ [] a = refl
  last_end φ (b ∷ []) a = refl
  last_end φ (b ∷ c ∷ l) a = ap (λ (r : List A). b ∷ r) (last_end φ (c ∷ l) a)

  pub last-length : (φ : A → A) (l : List A) → length (on_last φ l) ≡ length l
  unfolding on_last
  last-length φ [] = refl
  last-length φ (a ∷ []) = refl
  last-length φ (a ∷ b ∷ l) = ap suc (last-length φ (b ∷ l))

  pub end-length : (l : List A) (a : A) → length (l ++ (a ∷ [])) ≡ suc (length l)
  end-length l a = omega (arith, length-append l (a ∷ []))

  module _ (f g : ℕ → A) (l : List A) (mean : run f 0 (length l) ≡ l) where
    -- the same list from other places
    pub run-kept : ((k : ℕ) → k < length l → g k ≡ f k) → run g 0 (length l) ≡ l
    run-kept h = run-same f g 0 (length l) (λ k _ m. h k (omega arith)) ∙ mean

    -- one more
    pub run-grown :
        (a : A) → ((k : ℕ) → k < length l → g k ≡ f k) → g (length l) ≡ a → run g 0 (length (l ++ (a ∷ []))) ≡ l ++ (a ∷ [])
    run-grown a h e =
        ap (run g 0) (end-length l a)
        ∙ (run_more g 0 (length l)
        ∙ (ap (λ (r : List A). r ++ (g (0 + length l) ∷ [])) (run-kept h)
        ∙ ap (λ (b : A). l ++ (b ∷ [])) (ap g (let z : 0 + length l ≡ length l = omega arith in z) ∙ e)))

    -- the last changed
    pub run-last :
        (φ : A → A) (m : ℕ) → length l ≡ suc m → ((k : ℕ) → k < m → g k ≡ f k) → g m ≡ φ (f m) →
        run g 0 (length (on_last φ l)) ≡ on_last φ l
    run-last φ m e h c =
        let z : 0 + m ≡ m = omega arith in
        let whole : run f 0 m ++ (f m ∷ []) ≡ l =
        ap (λ (k : ℕ). run f 0 m ++ (f k ∷ [])) (sym z) ∙ (sym (run_more f 0 m) ∙ (ap (run f 0) (sym e) ∙ mean)) in
        ap (run g 0) (last-length φ l ∙ e)
        ∙ (run_more g 0 m
        ∙ (ap (λ (r : List A). r ++ (g (0 + m) ∷ [])) (run-same f g 0 m (λ k _ p. h k (omega arith)))
        ∙ (ap (λ (b : A). run f 0 m ++ (b ∷ [])) (ap g z ∙ c)
        ∙ (sym (last_end φ (run f 0 m) (f m)) ∙ ap (on_last φ) whole))))
