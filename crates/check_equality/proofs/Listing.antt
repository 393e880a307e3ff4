-- Laws of a list by its places.
use mathlib.Core.Path.{◌≡◌, refl, ap, ap₂, ◌∙◌}
use mathlib.Core.Bool.{Bool, true, false, cond, ◌||◌}
use mathlib.Core.List.{List, [], ◌∷◌, ◌++◌}
use mathlib.Core.Option.{Option, none, some}
use mathlib.Core.Logic.{⊎_elim}
use Prim.Native.Nat.{ℕ, zero, suc, ◌+◌, ◌<◌}
use native.Mathlib.Omega.{arith}
use native.Mathlib.Numerals.{add-one}
use lib.ListN.{length, length-append}
use Rattle.rules.specs.Base.{any, first, map_option}
use Rattle.rules.proofs.Lists.{decide_eq}
use Rattle.check_equality.specs.Listing.{listed}

pub or-false : (b : Bool) → (b || false) ≡ b
or-false true = refl
or-false false = refl

pub or-true : (b : Bool) → (b || true) ≡ true
or-true true = refl
or-true false = refl

module _ {A : Type 0} where
  pub listed-none : (f : ℕ → A) → listed f 0 ≡ []
  unfolding listed
  listed-none f = refl

  pub listed_more : (f : ℕ → A) (n : ℕ) → listed f (n + 1) ≡ listed f n ++ (f n ∷ [])
  unfolding listed
  listed_more f n = rw add-one

  pub listed_same : (f g : ℕ → A) (n : ℕ) → ((i : ℕ) → i < n → f i ≡ g i) → listed f n ≡ listed g n
  unfolding listed
  listed_same f g zero h = refl
  listed_same f g (suc n) h =
      ap₂ (λ (l : List A) (a : A). l ++ (a ∷ [])) (listed_same f g n (λ i k. h i (omega arith))) (h n (omega arith))

  pub listed-length : (f : ℕ → A) (n : ℕ) → length (listed f n) ≡ n
  unfolding listed
  listed-length f zero = refl
  listed-length f (suc n) = length-append (listed f n) (f n ∷ []) ∙ let e = listed-length f n in omega arith

  -- ANY
  pub any_append : (p : A → Bool) (l m : List A) → any p (l ++ m) ≡ (any p l || any p m)
  unfolding any
  any_append p [] m = refl
  any_append p (a ∷ l) m = go (p a) (any_append p l m)
    where
      go : (c : Bool) → any p (l ++ m) ≡ (any p l || any p m) → (c || any p (l ++ m)) ≡ ((c || any p l) || any p m)
      go true e = refl
      go false e = e

  pub any_none : (p : A → Bool) (f : ℕ → A) → any p (listed f 0) ≡ false
  unfolding any listed
  any_none p f = refl

  pub any-more : (p : A → Bool) (f : ℕ → A) (n : ℕ) → any p (listed f (n + 1)) ≡ (any p (listed f n) || p (f n))
  unfolding any
  any-more p f n = rw (listed_more f n) (any_append p (listed f n) (f n ∷ []) ∙ ap (λ (c : Bool). any p (listed f n) || c) (or-false (p (f n))))

  -- one more place, where the test fails
  pub any-past : (p : A → Bool) (f : ℕ → A) (n : ℕ) → any p (listed f n) ≡ false → p (f n) ≡ false → any p (listed f (n + 1)) ≡ false
  any-past p f n e d = any-more p f n ∙ rw (e, d)

  -- a place where it passes
  pub any_found : (p : A → Bool) (f : ℕ → A) (n i : ℕ) → i < n → p (f i) ≡ true → any p (listed f n) ≡ true
  unfolding any listed
  any_found p f zero i h e = absurd (omega arith)
  any_found p f (suc n) i h e =
      any_append p (listed f n) (f n ∷ []) ∙ ⊎_elim here (λ d. there (any_found p f n i (omega arith) e)) (decide_eq i n)
    where
      here : i ≡ n → (any p (listed f n) || (p (f n) || false)) ≡ true
      here d = let g : p (f n) ≡ true = rw d at e in rw g (or-true (any p (listed f n)))

      there : any p (listed f n) ≡ true → (any p (listed f n) || (p (f n) || false)) ≡ true
      there d = rw d

  -- FIRST
  pub first-append : (p : A → Bool) (l m : List A) → first p l ≡ none → first p (l ++ m) ≡ first p m
  unfolding first
  first-append p [] m e = refl
  first-append p (a ∷ l) m e = go (p a) (first-append p l m) e
    where
      go :
          (c : Bool) → (first p l ≡ none → first p (l ++ m) ≡ first p m) → cond c (some a) (first p l) ≡ none →
          cond c (some a) (first p (l ++ m)) ≡ first p m
      go true r e = absurd (let z : ◌≡◌ {A = ℕ} 0 1 = cc in omega arith)
      go false r e = r e

  pub first-stays : (p : A → Bool) (l m : List A) (a : A) → first p l ≡ some a → first p (l ++ m) ≡ some a
  unfolding first
  first-stays p [] m a e = absurd (let z : ◌≡◌ {A = ℕ} 0 1 = cc in omega arith)
  first-stays p (b ∷ l) m a e = go (p b) (first-stays p l m a) e
    where
      go :
          (c : Bool) → (first p l ≡ some a → first p (l ++ m) ≡ some a) → cond c (some b) (first p l) ≡ some a →
          cond c (some b) (first p (l ++ m)) ≡ some a
      go true r e = e
      go false r e = r e

  pub first-here : (p : A → Bool) (f : ℕ → A) (i : ℕ) → first p (listed f i) ≡ none → p (f i) ≡ true → first p (listed f (i + 1)) ≡ some (f i)
  unfolding first
  first-here p f i e d = rw (listed_more f i) (first-append p (listed f i) (f i ∷ []) e ∙ rw d)

  pub first_found : (p : A → Bool) (f : ℕ → A) (n i : ℕ) → i < n → first p (listed f (i + 1)) ≡ some (f i) → first p (listed f n) ≡ some (f i)
  unfolding listed
  first_found p f zero i h e = absurd (omega arith)
  first_found p f (suc n) i h e =
      ⊎_elim here (λ d. first-stays p (listed f n) (f n ∷ []) (f i) (first_found p f n i (omega arith) e)) (decide_eq i n)
    where
      here : i ≡ n → first p (listed f n ++ (f n ∷ [])) ≡ some (f i)
      here d = let g : listed f (i + 1) ≡ listed f n ++ (f n ∷ []) = rw d (listed_more f n) in rw g at e
      -- KEEP

pub map-append : {A B : Type 0} (f : A → Option B) (l m : List A) → map_option f (l ++ m) ≡ map_option f l ++ map_option f m
unfolding map_option
map-append f [] m = refl
map-append {B = B} f (a ∷ l) m = go (f a) (map-append f l m)
  where
    go : (o : Option B) → map_option f (l ++ m) ≡ map_option f l ++ map_option f m → elim o [ none ↦ map_option f (l ++ m) | some b ↦ b ∷ map_option f (l ++ m) ] ≡ elim o [ none ↦ map_option f l | some b ↦ b ∷ map_option f l ] ++ map_option f m
    go none e = e
    go (some b) e = ap (λ (r : List B). b ∷ r) e
