-- The first that passes, of two lists one after the other and of a list that is mapped.
use mathlib.Core.Path.{◌≡◌, refl, sym, ap}
use mathlib.Core.Bool.{Bool, true, false, cond}
use mathlib.Core.List.{List, [], ◌∷◌, ◌++◌, map}
use mathlib.Core.Option.{none, some}
use Rattle.rules.specs.Base.{first}
use Rattle.rules.proofs.Lists.{none-some}

module _ {A : Type 0} (t : A → Bool) where
  pub first-left : (l m : List A) (a : A) → first t l ≡ some a → first t (l ++ m) ≡ some a
  unfolding first
  first-left [] m a e = none-some e
  first-left (b ∷ l) m a e = go (t b) e (first-left l m a)
    where
      go : (c : Bool) → cond c (some b) (first t l) ≡ some a → (first t l ≡ some a → first t (l ++ m) ≡ some a) → cond c (some b) (first t (l ++ m)) ≡ some a
      go true e h = e
      go false e h = h e

  pub first-right : (l m : List A) → first t l ≡ none → first t (l ++ m) ≡ first t m
  unfolding first
  first-right [] m e = refl
  first-right (b ∷ l) m e = go (t b) e (first-right l m)
    where
      go : (c : Bool) → cond c (some b) (first t l) ≡ none → (first t l ≡ none → first t (l ++ m) ≡ first t m) → cond c (some b) (first t (l ++ m)) ≡ first t m
      go true e h = none-some (sym e)
      go false e h = h e

  module _ {B : Type 0} (f : B → A) where
    pub first-map-some : (l : List B) (b : B) → first (λ b. t (f b)) l ≡ some b → first t (map f l) ≡ some (f b)
    unfolding first
    first-map-some [] b e = none-some e
    first-map-some (x ∷ l) b e = go (t (f x)) e (first-map-some l b)
      where
        go : (c : Bool) → cond c (some x) (first (λ b. t (f b)) l) ≡ some b → (first (λ b. t (f b)) l ≡ some b → first t (map f l) ≡ some (f b)) → cond c (some (f x)) (first t (map f l)) ≡ some (f b)
        go true e h = ap (λ o. elim o [ none ↦ none | some y ↦ some (f y) ]) e
        go false e h = h e

    pub first-map-none : (l : List B) → first (λ b. t (f b)) l ≡ none → first t (map f l) ≡ none
    unfolding first
    first-map-none [] e = refl
    first-map-none (x ∷ l) e = go (t (f x)) e (first-map-none l)
      where
        go : (c : Bool) → cond c (some x) (first (λ b. t (f b)) l) ≡ none → (first (λ b. t (f b)) l ≡ none → first t (map f l) ≡ none) → cond c (some (f x)) (first t (map f l)) ≡ none
        go true e h = none-some (sym e)
        go false e h = h e

-- with tests that agree
pub first-same : {A : Type 0} (t u : A → Bool) (l : List A) → ((a : A) → t a ≡ u a) → first t l ≡ first u l
first-same t u l h = ap (λ f. first f l) (λ i a. h a i)
