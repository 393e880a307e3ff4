-- The one heap and its shares: what is placed in a share is seen there, and nothing outside of it changes.
use mathlib.Core.Path.{◌≡◌, refl, sym, ap, ◌∙◌}
use mathlib.Core.List.{[], ◌++◌, append_assoc}
use mathlib.Core.Logic.{◌⊎◌, inl, inr, ⊎_elim}
use Prim.Native.Nat.{ℕ, zero, suc, ◌+◌, ◌-◌, ◌≤◌, ◌<◌}
use native.Mathlib.Omega.{arith}
use lib.Dec.{ltb, ltb→lt, nltb→le, not_T}
use lib.ListN.{length, get_or, take, drop}
use lib.Seq.{length-sets, sets-eq, take-take, drop-drop, take-add, take_at, drop_at, length-take-le, drop-append-add, get_or-take, get_or-drop}
use Rattle.rules.specs.Machine.{Heap, value_in, object, value_at}
use Rattle.rules.specs.Joint.{Share, seen, placed}
use Rattle.rules.proofs.Lists.{decide-test}
use Rattle.joint.specs.Claims.{field_in}

pub decide-lt : (a n : ℕ) → (a < n) ⊎ (n ≤ a)
decide-lt a n = ⊎_elim (λ t. inl (ltb→lt a n t)) (λ t. inr (nltb→le a n (not_T (ltb a n) t))) (decide-test (ltb a n))

-- nothing outside of the share changes
pub record Inside (s : Share) (h h' : Heap) : Type 0 where
  pub size : length h' ≡ length h
  pub low : take s.first h' ≡ take s.first h
  pub high : drop (s.first + s.size) h' ≡ drop (s.first + s.size) h

pub inside-same : (s : Share) (h : Heap) → Inside s h h
inside-same s h = record { size = refl; low = refl; high = refl }

-- WHAT IS PLACED
module _ (s : Share) (h part : Heap) (room : s.first + s.size ≤ length h) (fits : length part ≤ s.size) where
  is-sets : placed h s part ≡ take s.first h ++ (part ++ drop (s.first + length part) h)
  unfolding placed
  is-sets =
      sets-eq part h s.first (omega (arith, room, fits))
      ∙ append_assoc (take s.first h) part (drop (s.first + length part) h)

  front : length (take s.first h) ≡ s.first
  front = length-take-le s.first h (omega (arith, room))

  after_front : drop s.first (placed h s part) ≡ part ++ drop (s.first + length part) h
  after_front =
      ap (drop s.first) is-sets ∙ drop_at (take s.first h) (part ++ drop (s.first + length part) h) s.first front

  low_same : take s.first (placed h s part) ≡ take s.first h
  low_same = ap (take s.first) is-sets ∙ take_at (take s.first h) (part ++ drop (s.first + length part) h) s.first front

  high_same : drop (s.first + s.size) (placed h s part) ≡ drop (s.first + s.size) h
  high_same =
      let d : ℕ = s.size - length part in
      let parted : s.size ≡ length part + d = omega (arith, fits) in
      let summed : s.first + length part + d ≡ s.first + s.size = omega (arith, fits) in
      sym (drop-drop s.size s.first (placed h s part))
      ∙ ap (drop s.size) after_front
      ∙ ap (λ (k : ℕ). drop k (part ++ drop (s.first + length part) h)) parted
      ∙ drop-append-add part (drop (s.first + length part) h) d
      ∙ drop-drop d (s.first + length part) h
      ∙ ap (λ (k : ℕ). drop k h) summed

  pub placed-inside : Inside s h (placed h s part)
  unfolding placed
  placed-inside = record { size = length-sets h s.first part; low = low_same; high = high_same }

  pub placed-seen : seen (placed h s part) s (length part) ≡ part
  unfolding seen
  placed-seen = ap (take (length part)) after_front ∙ take_at part (drop (s.first + length part) h) (length part) refl

-- WHAT IS SEEN changes only with the share
pub seen-high : (s : Share) (b n : ℕ) (h h' : Heap) → b ≤ s.first → drop b h' ≡ drop b h → seen h' s n ≡ seen h s n
unfolding seen
seen-high s b n h h' l e = ap (take n) (go h' ∙ ap (drop (s.first - b)) e ∙ sym (go h))
  where
    go : (h : Heap) → drop s.first h ≡ drop (s.first - b) (drop b h)
    go h =
        let e : s.first ≡ b + (s.first - b) = omega (arith, l) in
        ap (λ (k : ℕ). drop k h) e ∙ sym (drop-drop (s.first - b) b h)

pub seen_low :
    (s : Share) (n : ℕ) (h h' : Heap) → n ≤ s.size → s.first ≤ length h → length h' ≡ length h →
    take (s.first + s.size) h' ≡ take (s.first + s.size) h → seen h' s n ≡ seen h s n
unfolding seen
seen_low s n h h' l r q e = sym (go h') ∙ ap (take n) whole ∙ go h
  where
    go : (h : Heap) → take n (take s.size (drop s.first h)) ≡ take n (drop s.first h)
    go h = take-take n s.size (drop s.first h) l

    cut : (h : Heap) → s.first ≤ length h → drop s.first (take (s.first + s.size) h) ≡ take s.size (drop s.first h)
    cut h r =
        ap (drop s.first) (take-add s.first s.size h)
        ∙ drop_at (take s.first h) (take s.size (drop s.first h)) s.first (length-take-le s.first h r)

    whole : take s.size (drop s.first h') ≡ take s.size (drop s.first h)
    whole = sym (cut h' (omega (arith, r, q))) ∙ ap (drop s.first) e ∙ cut h r

-- a field of an object that is seen
pub seen-field : (h : Heap) (s : Share) (n o f : ℕ) → o ≤ n → value_at (seen h s n) o f ≡ field_in s h o f
unfolding value_at object seen
seen-field h s n zero f l = refl
seen-field h s n (suc i) f l = ap (λ c. value_in c f) (get_or-take n (drop s.first h) i [] l)

-- A PLACE OUTSIDE OF THE SHARE
pub outside : (s : Share) (h h' : Heap) → Inside s h h' → (o : ℕ) → ((s.first ≤ o) × (o < s.first + s.size) → ⊥) → get_or h' o [] ≡ get_or h o []
outside s h h' I o n =
    ⊎_elim
    (λ l. sym (get_or-take s.first h' o [] l) ∙ ap (λ (h : Heap). get_or h o []) I.low ∙ get_or-take s.first h o [] l)
    (λ l. ⊎_elim (λ k. absurd (n (l, k))) (λ k. high k) (decide-lt o b))
    (decide-lt o s.first)
  where
    b : ℕ
    b = s.first + s.size

    at : b ≤ o → (h : Heap) → get_or (drop b h) (o - b) [] ≡ get_or h o []
    at k h =
        let e : b + (o - b) ≡ o = omega (arith, k) in get_or-drop b h (o - b) [] ∙ ap (λ (i : ℕ). get_or h i []) e

    high : b ≤ o → get_or h' o [] ≡ get_or h o []
    high k = sym (at k h') ∙ ap (λ (h : Heap). get_or h (o - b) []) I.high ∙ at k h
