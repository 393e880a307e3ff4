-- Laws of the lists of shares that the code goes through.
use mathlib.Core.Path.{◌≡◌, refl, sym, ap, ap₂, ◌∙◌, subst}
use mathlib.Core.Bool.{Bool, true, false, ◌||◌}
use mathlib.Core.List.{List, [], ◌∷◌, ◌++◌, map, append-nil, append_assoc}
use mathlib.Core.Logic.{◌⊎◌, inl, inr, ⊎_elim}
use Prim.Native.Nat.{ℕ, zero, suc, ◌+◌, ◌/◌, ◌≤◌, ◌<◌}
use native.Mathlib.Numerals.{add-one}
use native.Mathlib.Omega.{arith}
use lib.Dec.{T, eqb, eqb_refl}
use lib.ListN.{length, take, drop, get_or, length-take, drop_of_length-le}
use lib.Seq.{drop-cons, get_or-take, length-take-le}
use borrow.Author.Tests.{eq-eqb, ne_eqb}
use Rattle.rules.specs.Base.{any}
use Rattle.rules.proofs.Lists.{or_cases, or_right, or_left}
use Rattle.run_heap.specs.Views.{handed}
use Rattle.run_heap.specs.Chains.{cells_by}
use Rattle.run_footprint.specs.Footprints.{share_of, cell_in, halves_in, part_of, taken, chain_of, is_chain, start_in, field_in, spread_one, spread, part_by, taken_by, marked, ShareFits, SharesFit}

-- the i-th of the first n
pub nth : (l : List ℕ) (n i : ℕ) → n ≤ length l → i < n → drop i (take n l) ≡ get_or l i 0 ∷ drop (i + 1) (take n l)
nth l n i h k =
    let e : length (take n l) ≡ n = length-take-le n l h in
    rw add-one
    (drop-cons (take n l) i 0 (omega (arith, e)) ∙ ap (λ (x : ℕ). x ∷ drop (suc i) (take n l)) (get_or-take n l i 0 k))

-- none is left
pub past : (l : List ℕ) (n i : ℕ) → n ≤ i → drop i (take n l) ≡ []
past l n i h = let e : length (take n l) ≤ i = rw length-take (omega arith) in drop_of_length-le (take n l) e

-- ONE SHARE
pub share-is : (s : ℕ) → share_of (cell_in s) (halves_in s) ≡ s
share-is s = omega arith

pub share_cell : (k n : ℕ) → n < 4 → cell_in (share_of k n) ≡ k
share_cell k n l = omega arith

pub share_halves : (k n : ℕ) → n < 4 → halves_in (share_of k n) ≡ n
share_halves k n l = omega arith

pub part_same : (k s : ℕ) → cell_in s ≡ k → part_of k s ≡ halves_in s
unfolding part_of
part_same k s e = rw (eq-eqb (s / 4) k e)

pub part-other : (k s : ℕ) → (cell_in s ≡ k → ⊥) → part_of k s ≡ 0
unfolding part_of
part-other k s n = rw (ne_eqb (s / 4) k n)

-- WHAT IS TAKEN
pub taken_none : (k : ℕ) → taken k [] ≡ 0
unfolding taken
taken_none k = refl

pub taken-cons : (k s : ℕ) (ss : List ℕ) → taken k (s ∷ ss) ≡ part_of k s + taken k ss
unfolding taken
taken-cons k s ss = refl

pub taken-end : (k s : ℕ) (ss : List ℕ) → taken k (ss ++ (s ∷ [])) ≡ taken k ss + part_of k s
taken-end k s [] = omega (arith, taken-cons k s [], taken_none k)
taken-end k s (r ∷ ss) = omega (arith, taken-cons k r ss, taken-cons k r (ss ++ (s ∷ [])), taken-end k s ss)

-- WHAT IS TAKEN BESIDE CHAINS
module _ (w : List ℕ) (n f k : ℕ) where
  pub by-none : taken_by w n f k [] ≡ 0
  unfolding taken_by
  by-none = refl

  pub by-cons : (s : ℕ) (ss : List ℕ) → taken_by w n f k (s ∷ ss) ≡ part_by w n f k s + taken_by w n f k ss
  unfolding taken_by
  by-cons s ss = refl

  -- the sum over the first m goes on, and ends
  module _ (l : List ℕ) (m i : ℕ) where
    pub sum-on :
        m ≤ length l → i < m →
        taken_by w n f k (drop i (take m l)) ≡ part_by w n f k (get_or l i 0) + taken_by w n f k (drop (i + 1) (take m l))
    sum-on fits h = ap (taken_by w n f k) (nth l m i fits h) ∙ by-cons (get_or l i 0) (drop (i + 1) (take m l))

    pub sum_past : m ≤ i → taken_by w n f k (drop i (take m l)) ≡ 0
    sum_past h = ap (taken_by w n f k) (past l m i h) ∙ by-none

-- a test of the first n goes on, and ends
module _ (t : ℕ → Bool) (l : List ℕ) (n i : ℕ) where
  pub any_here : n ≤ length l → i < n → t (get_or l i 0) ≡ true → any t (drop i (take n l)) ≡ true
  unfolding any
  any_here fits h e = rw (nth l n i fits h, e)

  pub any-on : n ≤ length l → i < n → t (get_or l i 0) ≡ false → any t (drop (i + 1) (take n l)) ≡ any t (drop i (take n l))
  unfolding any
  any-on fits h e = rw (nth l n i fits h, e)

  pub any-past : n ≤ i → any t (drop i (take n l)) ≡ false
  unfolding any
  any-past h = rw (past l n i h)

-- in a list with one more at its end
pub any-end : (k j : ℕ) (ks : List ℕ) → any (eqb k) (ks ++ (j ∷ [])) ≡ (eqb k j || any (eqb k) ks)
unfolding any
any-end k j [] = refl
any-end k j (i ∷ ks) = rw (any-end k j ks) (swap (eqb k i) (eqb k j) (any (eqb k) ks))
  where
    swap : (a b c : Bool) → (a || (b || c)) ≡ (b || (a || c))
    swap true true c = refl
    swap true false c = refl
    swap false true c = refl
    swap false false c = refl

-- MARKS
pub marked_append : (w ss rs : List ℕ) (from to : ℕ) → marked w (ss ++ rs) from to ≡ marked (marked w ss from to) rs from to
unfolding marked
marked_append w [] rs from to = refl
marked_append w (s ∷ ss) rs from to = marked_append (handed w (cell_in s) (halves_in s) from to) ss rs from to

pub mark-cell :
    (w rs : List ℕ) (k from to : ℕ) → marked w (share_of k 2 ∷ rs) from to ≡ marked (handed w k 2 from to) rs from to
unfolding marked
mark-cell w rs k from to =
    ap (λ (j : ℕ). marked (handed w j (halves_in (share_of k 2)) from to) rs from to) (share_cell k 2 (omega arith))
    ∙ ap (λ (j : ℕ). marked (handed w k j from to) rs from to) (share_halves k 2 (omega arith))

module _ (w u l : List ℕ) (n m i from to : ℕ) where
  pub mark-next :
      n ≤ length l → i < n →
      marked (marked u (spread_one w m (get_or l i 0)) from to) (spread w m (drop (i + 1) (take n l))) from to
      ≡ marked u (spread w m (drop i (take n l))) from to
  unfolding spread
  mark-next h k =
      rw (nth l n i h k) (sym (marked_append u (spread_one w m (get_or l i 0)) (spread w m (drop (i + 1) (take n l))) from to))

  pub mark-end : n ≤ i → marked u (spread w m (drop i (take n l))) from to ≡ u
  unfolding marked spread
  mark-end h = rw (past l n i h)

pub any_left : (t : ℕ → Bool) (l m : List ℕ) → T (any t l) → T (any t (l ++ m))
unfolding any
any_left t [] m e = absurd e
any_left t (a ∷ l) m e =
    ⊎_elim (λ q. or_left (t a) (any t (l ++ m)) q) (λ q. or_right (t a) (any t (l ++ m)) (any_left t l m q)) (or_cases (t a) (any t l) e)

pub any-right : (t : ℕ → Bool) (l m : List ℕ) → T (any t m) → T (any t (l ++ m))
unfolding any
any-right t [] m e = e
any-right t (a ∷ l) m e = or_right (t a) (any t (l ++ m)) (any-right t l m e)

pub any-either : (t : ℕ → Bool) (l m : List ℕ) → T (any t (l ++ m)) → T (any t l) ⊎ T (any t m)
unfolding any
any-either t [] m e = inr e
any-either t (a ∷ l) m e =
    ⊎_elim
    (λ q. inl (or_left (t a) (any t l) q))
    (λ q. ⊎_elim (λ p. inl (or_right (t a) (any t l) p)) (λ p. inr p) (any-either t l m q))
    (or_cases (t a) (any t (l ++ m)) e)

-- what the i-th of the first n stands for is among what they all do
pub spread-among :
    (w : List ℕ) (m j : ℕ) (l : List ℕ) (n i : ℕ) → n ≤ length l → i < n → T (any (eqb j) (spread_one w m (get_or l i 0))) →
    T (any (eqb j) (spread w m (take n l)))
unfolding spread
spread-among w m j l zero i h k t = absurd (omega arith)
spread-among w m j [] (suc n) i h k t = absurd (omega arith)
spread-among w m j (a ∷ l) (suc n) zero h k t = any_left (eqb j) (spread_one w m a) (spread w m (take n l)) t
spread-among w m j (a ∷ l) (suc n) (suc i) h k t =
    any-right (eqb j) (spread_one w m a) (spread w m (take n l)) (spread-among w m j l n i (omega arith) (omega arith) t)

-- CHAINS
chain-is : (o f : ℕ) → is_chain (chain_of o f) ≡ true
unfolding is_chain
chain-is o f = let e : halves_in (chain_of o f) ≡ 3 = omega arith in rw e

pub chain-start : (o f : ℕ) → o < 4294967296 → f < 128 → start_in (chain_of o f) ≡ o
chain-start o f l h = omega arith

pub chain-field : (o f : ℕ) → f < 128 → field_in (chain_of o f) ≡ f
chain-field o f h = omega arith

pub share-plain : (s : ℕ) → halves_in s ≤ 2 → is_chain s ≡ false
unfolding is_chain
share-plain s l = ne_eqb (halves_in s) 3 (λ e. omega arith)

-- what shares stand for
pub spread-plain : (w : List ℕ) (n s : ℕ) → is_chain s ≡ false → spread_one w n s ≡ s ∷ []
unfolding spread_one
spread-plain w n s e = rw e

pub spread-is :
    (w : List ℕ) (n o f : ℕ) → o < 4294967296 → f < 128 → spread_one w n (chain_of o f) ≡ map (λ k. share_of k 2) (cells_by w n f n o)
unfolding spread_one
spread-is w n o f l h = rw (chain-is o f) (ap₂ (λ (g i : ℕ). map (λ k. share_of k 2) (cells_by w n g n i)) (chain-field o f h) (chain-start o f l h))

pub plain_fits : (w : List ℕ) (n s : ℕ) → is_chain s ≡ false → SharesFit (spread_one w n s) → ShareFits s
unfolding any
plain_fits w n s e F =
    F s (subst (λ (l : List ℕ). T (any (eqb s) l)) (sym (spread-plain w n s e)) (or_left (eqb s s) false (eqb_refl s)))

pub plain-marked :
    (w : List ℕ) (n s from to : ℕ) → is_chain s ≡ false →
    handed w (cell_in s) (halves_in s) from to ≡ marked w (spread_one w n s) from to
unfolding marked
plain-marked w n s from to e = rw (spread-plain w n s e)

pub spread_end : (w : List ℕ) (n s : ℕ) (ss : List ℕ) → spread w n (ss ++ (s ∷ [])) ≡ spread w n ss ++ spread_one w n s
unfolding spread
spread_end w n s [] = append-nil (spread_one w n s)
spread_end w n s (r ∷ ss) = rw (spread_end w n s ss) (sym (append_assoc (spread_one w n r) (spread w n ss) (spread_one w n s)))
