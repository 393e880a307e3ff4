-- Laws of the two holders of a cell: how many of its halves are with a number.
use Rattle.std.proofs.Common.{◌≡◌, ℕ, ◌+◌, ◌*◌, ◌<◌, ◌≤◌, true, false, eqb, leb, ◌⊎◌, List, sym, refl, inl, inr, ⊎_elim, arith, eq-eqb, ne_eqb, le-leb}
use borrow.Author.Tests.{lt-leb}
use Rattle.rules.proofs.Lists.{decide_eq}
use Rattle.run_heap.specs.Views.{first_holder, second_holder, one, halves_at, whole}

-- ONE HALF
pub one_same : {a h : ℕ} → a ≡ h → one (eqb a h) ≡ 1
unfolding one
one_same {a} {h} e = rw (eq-eqb a h e)

pub one-other : {a h : ℕ} → (a ≡ h → ⊥) → one (eqb a h) ≡ 0
unfolding one
one-other {a} {h} n = rw (ne_eqb a h n)

pub one-cases : (a h : ℕ) → ((a ≡ h) × (one (eqb a h) ≡ 1)) ⊎ ((a ≡ h → ⊥) × (one (eqb a h) ≡ 0))
one-cases a h = ⊎_elim (λ e. inl (e, one_same e)) (λ n. inr (n, one-other n)) (decide_eq a h)

-- BOTH
pub halves-at : (w : List ℕ) (h k : ℕ) → halves_at w h k ≡ one (eqb (first_holder w k) h) + one (eqb (second_holder w k) h)
unfolding halves_at
halves-at w h k = refl

pub halves-most : (w : List ℕ) (h k : ℕ) → halves_at w h k ≤ whole
halves-most w h k =
    ⊎_elim
    (λ (_, a). ⊎_elim (λ (_, b). omega (arith, a, b, halves-at w h k)) (λ (_, b). omega (arith, a, b, halves-at w h k)) (one-cases (second_holder w k) h))
    (λ (_, a). ⊎_elim (λ (_, b). omega (arith, a, b, halves-at w h k)) (λ (_, b). omega (arith, a, b, halves-at w h k)) (one-cases (second_holder w k) h))
    (one-cases (first_holder w k) h)

-- THE TESTS of the code
module _ (w : List ℕ) (h k : ℕ) where
  -- both holders as one number
  module _ (a b : ℕ) (ea : a ≡ first_holder w k) (eb : b ≡ second_holder w k) (la : a < 4294967296) (lh : h < 4294967296) where
    pub both-held : a + b * 4294967296 ≡ h * 4294967297 → true ≡ leb whole (halves_at w h k)
    both-held e =
        let p : first_holder w k ≡ h = omega arith in
        let q : second_holder w k ≡ h = omega arith in
        sym (le-leb whole (halves_at w h k) (omega (arith, one_same p, one_same q, halves-at w h k)))

    pub not-both : (a + b * 4294967296 ≡ h * 4294967297 → ⊥) → false ≡ leb whole (halves_at w h k)
    not-both n =
        ⊎_elim
        (λ (p, _).
        ⊎_elim (λ (q, _). absurd (n (omega arith))) (λ (_, q). sym (lt-leb whole (halves_at w h k) (omega (arith, q, one_same p, halves-at w h k))))
        (one-cases (second_holder w k) h))
        (λ (_, p).
        ⊎_elim (λ (_, q). sym (lt-leb whole (halves_at w h k) (omega (arith, p, q, halves-at w h k)))) (λ (_, q). sym (lt-leb whole (halves_at w h k) (omega (arith, p, q, halves-at w h k))))
        (one-cases (second_holder w k) h))
        (one-cases (first_holder w k) h)

  pub first-held : first_holder w k ≡ h → true ≡ leb 1 (halves_at w h k)
  first-held p = sym (le-leb 1 (halves_at w h k) (omega (arith, one_same p, halves-at w h k)))

  pub second-held : second_holder w k ≡ h → true ≡ leb 1 (halves_at w h k)
  second-held p = sym (le-leb 1 (halves_at w h k) (omega (arith, one_same p, halves-at w h k)))

  pub none-held : (first_holder w k ≡ h → ⊥) → (second_holder w k ≡ h → ⊥) → false ≡ leb 1 (halves_at w h k)
  none-held p q = sym (lt-leb 1 (halves_at w h k) (omega (arith, one-other p, one-other q, halves-at w h k)))
