-- Shares of the heap, added up one after the other.
use mathlib.Core.Path.{◌≡◌, refl, ap, ◌∙◌}
use mathlib.Core.Bool.{Bool, true, false, ◌&&◌}
use mathlib.Core.List.{List, [], ◌∷◌}
use Prim.Native.Nat.{ℕ, zero, suc, ◌+◌, ◌-◌, ◌≤◌, ◌<◌}
use native.Mathlib.Omega.{arith}
use native.Mathlib.Numerals.{add-one}
use lib.Dec.{leb}
use lib.ListN.{length, get_or, take}
use lib.Seq.{take-length}
use borrow.Author.Tests.{le-leb, lt-leb}
use Rattle.rules.specs.Base.{between, all}
use Rattle.rules.specs.Limits.{heap_objects, most_scripts}
use Rattle.rules.specs.Bounds.{total}
use Rattle.rules.specs.Joint.{fit_together, shares_fit}

no_second : (a : Bool) → (a && false) ≡ false
no_second true = refl
no_second false = refl

-- the first n shares have the first i and one more
total-more : (ks : List ℕ) (i : ℕ) → i < length ks → total (take (suc i) ks) ≡ total (take i ks) + get_or ks i 0
unfolding total
total-more [] i h = absurd (omega arith)
total-more (k ∷ ks) zero h = omega arith
total-more (k ∷ ks) (suc i) h = omega (arith, total-more ks i (omega arith))

pub total-most : (ks : List ℕ) (n i : ℕ) → i < n → i < length ks → total (take i ks) + get_or ks i 0 ≤ total (take n ks)
unfolding total
total-most [] n i h l = absurd (omega arith)
total-most (k ∷ ks) zero i h l = absurd (omega arith)
total-most (k ∷ ks) (suc n) zero h l = omega arith
total-most (k ∷ ks) (suc n) (suc i) h l = omega (arith, total-most ks n i (omega arith) (omega arith))

all_more : (ks : List ℕ) (i : ℕ) → all (leb 1) (take i ks) ≡ true → 1 ≤ get_or ks i 0 → all (leb 1) (take (suc i) ks) ≡ true
unfolding all
all_more [] i e h = refl
all_more (k ∷ ks) zero e h = rw (le-leb 1 k h) refl
all_more (k ∷ ks) (suc i) e h = go (leb 1 k) (all (leb 1) (take i ks)) e (λ q. all_more ks i q h)
  where
    go :
        (a b : Bool) → (a && b) ≡ true → (b ≡ true → all (leb 1) (take (suc i) ks) ≡ true) →
        (a && all (leb 1) (take (suc i) ks)) ≡ true
    go true b e f = f e
    go false b e f = e

all_none : (ks : List ℕ) (i : ℕ) → i < length ks → get_or ks i 0 ≡ 0 → all (leb 1) ks ≡ false
unfolding all
all_none [] i h e = absurd (omega arith)
all_none (k ∷ ks) zero h e = ap (λ (b : Bool). b && all (leb 1) ks) (lt-leb 1 k (omega (arith, e)))
all_none (k ∷ ks) (suc i) h e = ap (λ (b : Bool). leb 1 k && b) (all_none ks i (omega arith) e) ∙ no_second (leb 1 k)

-- what is left of the heap after the first i shares, none of them 0
pub record Left (ks : List ℕ) (i left : ℕ) : Type 0 where
  pub sum : left + total (take i ks) ≡ heap_objects
  pub each : all (leb 1) (take i ks) ≡ true

module _ (ks : List ℕ) where
  pub left-none : Left ks 0 256
  unfolding total all
  left-none = record { sum = refl; each = refl }

  pub left-more : (i left : ℕ) → i < length ks → Left ks i left → get_or ks i 0 ≤ left → (get_or ks i 0 ≡ 0 → ⊥) → Left ks (i + 1) (left - get_or ks i 0)
  left-more i left h L e z =
      rw add-one
      (record { sum = omega (arith, L.sum, e, total-more ks i h); each = all_more ks i L.each (omega (arith, z)) })

  pub zero-fails : (i : ℕ) → i < length ks → get_or ks i 0 ≡ 0 → false ≡ fit_together ks
  unfolding fit_together
  zero-fails i h e = rw (all_none ks i h e) refl

  pub more-fails : (i left : ℕ) → i < length ks → Left ks i left → left < get_or ks i 0 → false ≡ fit_together ks
  unfolding fit_together
  more-fails i left h L e =
      rw (lt-leb (total ks) heap_objects (omega (arith, (rw take-length at (total-most ks (length ks) i h h)), L.sum, e)), no_second (all (leb 1) ks)) refl

  pub all_fit : (n left : ℕ) → n ≡ length ks → Left ks n left → true ≡ fit_together ks
  unfolding fit_together
  all_fit n left e L =
      let t : take n ks ≡ ks = rw e (take-length ks) in
      rw ((rw t at L.each), le-leb (total ks) heap_objects (omega (arith, (rw t at L.sum)))) refl

-- NUMBER 19
module _ (n : ℕ) (ks : List ℕ) where
  pub none-fail : n ≡ 0 → false ≡ shares_fit n ks
  unfolding shares_fit between
  none-fail e = rw (lt-leb 1 n (omega (arith, e))) refl

  pub many-fail : most_scripts < n → false ≡ shares_fit n ks
  unfolding shares_fit between
  many-fail l = rw (lt-leb n most_scripts l, no_second (leb 1 n)) refl

  pub as-together : (n ≡ 0 → ⊥) → n ≤ most_scripts → fit_together (take n ks) ≡ shares_fit n ks
  unfolding shares_fit between
  as-together z l = rw (le-leb 1 n (omega (arith, z)), le-leb n most_scripts l) refl
