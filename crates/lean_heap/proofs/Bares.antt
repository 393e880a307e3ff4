-- Laws of the ghost: what the lean machine reads is the same in it, and which stores keep it so.
use mathlib.Core.Path.{◌≡◌, refl, sym, ◌∙◌}
use mathlib.Core.List.{List}
use mathlib.Core.Logic.{◌⊎◌, inl, inr, ⊎_elim}
use Prim.Native.Nat.{ℕ, zero, suc, ◌+◌, ◌*◌, ◌-◌, ◌%◌, ◌/◌, ◌≤◌, ◌<◌}
use native.Mathlib.Omega.{arith}
use lib.ListN.{length, set, length-set}
use lib.Seq.{get_or-set_other, get_or-set_same}
use Rattle.rules.specs.Limits.{heap_objects, heap_fields}
use Rattle.rules.proofs.Lists.{decide_eq}
use Rattle.tables.specs.Layout.{frame_variables, values_at, holders_at, objects_at, frames_at}
use Rattle.tables.specs.Stores.{SameTables, put_half, put_word, Kept}
use Rattle.tables.proofs.BytesRead.{put-word-length, word_kept, half-kept}
use Rattle.run_heap.specs.Views.{frame_at, variable_at, saved_row, cell_value, class_in, first_in, fill, frame_holder, frame_row, frame_method, whole}
use Rattle.run_footprint.specs.Footprints.{marked, SharesFit}
use Rattle.run_footprint.proofs.Regions.{Only, only-word, only-byte, only-fill, apart}
use Rattle.run_footprint.proofs.Handing.{only-marked}
use Rattle.lean_heap.specs.Ghosts.{Seen, Bare}

-- STORES: the same in both
pub set_both : {v w : List ℕ} (i b : ℕ) → i < length v → Bare v w → Bare (set v i b) (set w i b)
set_both {v} {w} i b l B =
    record {
      size = length-set w i b ∙ (B.size ∙ sym (length-set v i b));
      bytes = λ j s.
          ⊎_elim
          (λ (e : j ≡ i).
          rw e (get_or-set_same w i b 0 (omega (arith, l, B.size)) ∙ sym (get_or-set_same v i b 0 l)))
          (λ (n : j ≡ i → ⊥). get_or-set_other w i j b 0 n ∙ (B.bytes j s ∙ sym (get_or-set_other v i j b 0 n)))
          (decide_eq j i);
    }

pub half-both : {v w : List ℕ} (i n : ℕ) → i + 2 ≤ length v → Bare v w → Bare (put_half v i n) (put_half w i n)
unfolding put_half
half-both {v} i n l B =
    set_both (i + 1) (n / 256) (omega (arith, l, length-set v i (n % 256))) (set_both i (n % 256) (omega arith) B)

pub word-both : {v w : List ℕ} (i n : ℕ) → i + 4 ≤ length v → Bare v w → Bare (put_word v i n) (put_word w i n)
unfolding put_word
word-both {v} i n l B =
    let a : List ℕ = set v i (n % 256) in
    let b : List ℕ = set a (i + 1) (n / 256 % 256) in
    let c : List ℕ = set b (i + 2) (n / 65536 % 256) in
    let la : length a ≡ length v = length-set v i (n % 256) in
    let lb : length b ≡ length v = length-set a (i + 1) (n / 256 % 256) ∙ la in
    let lc : length c ≡ length v = length-set b (i + 2) (n / 65536 % 256) ∙ lb in
    set_both (i + 3) (n / 16777216 % 256) (omega (arith, l, lc))
    (set_both (i + 2) (n / 65536 % 256) (omega (arith, l, lb))
    (set_both (i + 1) (n / 256 % 256) (omega (arith, l, la)) (set_both i (n % 256) (omega arith) B)))

pub fill-both : {v w : List ℕ} (i n x : ℕ) → i + n * 4 ≤ length v → Bare v w → Bare (fill v i n x) (fill w i n x)
unfolding fill
fill-both i zero x l B = B
fill-both {v = v} {w = w} i (suc n) x l B =
    fill-both {v = put_word v i x} {w = put_word w i x} (i + 4) n x (omega (arith, l, put-word-length v i x)) (word-both i x (omega arith) B)

-- IN THE GHOST ALONE: a region that the lean machine does not read
ghost-only :
    {v v' w : List ℕ} (a b : ℕ) → Only a b v v' → ((j : ℕ) → Seen j → (j < a) ⊎ (b ≤ j)) → Bare v w → Bare v' w
ghost-only a b s u B =
    record { size = B.size ∙ sym s.size; bytes = λ j e. B.bytes j e ∙ sym (s.bytes j (u j e)) }

-- holders
holders-unseen : (j : ℕ) → Seen j → (j < holders_at) ⊎ (objects_at ≤ j)
holders-unseen j (inl l) = inl l
holders-unseen j (inr (inl (l, h))) = inr l
holders-unseen j (inr (inr (n, r, e, h))) = inr (omega (arith, e))

pub ghost-marked :
    {v w : List ℕ} (ss : List ℕ) (from to : ℕ) → SharesFit ss → Bare v w → Bare (marked v ss from to) w
ghost-marked {v} ss from to s B = ghost-only holders_at objects_at (only-marked v ss from to s) holders-unseen B

pub ghost-holders :
    {v w : List ℕ} (k n x : ℕ) → k + n ≤ heap_fields → Bare v w → Bare (fill v (holders_at + k * 8) (n * whole) x) w
ghost-holders {v} k n x l B =
    ghost-only holders_at objects_at (only-fill holders_at objects_at v (holders_at + k * 8) (n * whole) x (omega arith) (omega arith))
    holders-unseen B

-- of frame i: the number by which it holds, and its method
tail-unseen :
    (i a b : ℕ) → ((a ≡ frame_holder) × (b ≡ frame_row)) ⊎ ((a ≡ frame_method) × (b ≡ frame_method + 1)) → (j : ℕ) → Seen j →
    (j < frame_at i + a) ⊎ (frame_at i + b ≤ j)
tail-unseen i a b o j (inl l) = inl (omega arith)
tail-unseen i a b o j (inr (inl (l, h))) = inl (omega arith)
tail-unseen i a b o j (inr (inr (n, r, e, h))) = go (decide_eq n i)
  where
    same :
        n ≡ i → ((a ≡ frame_holder) × (b ≡ frame_row)) ⊎ ((a ≡ frame_method) × (b ≡ frame_method + 1)) →
        (r < frame_holder) ⊎ ((frame_row ≤ r) × (r < frame_method)) → (j < frame_at i + a) ⊎ (frame_at i + b ≤ j)
    same q (inl (x, y)) (inl k) = inl (omega (arith, e, q, x, k))
    same q (inl (x, y)) (inr (k, l)) = inr (omega (arith, e, q, y, k))
    same q (inr (x, y)) (inl k) = inl (omega (arith, e, q, x, k))
    same q (inr (x, y)) (inr (k, l)) = inl (omega (arith, e, q, x, l))

    small : r < frame_method
    small = ⊎_elim (λ k. omega arith) (λ k. k.1) h

    wide : (frame_holder ≤ a) × (b ≤ frame_method + 1)
    wide = ⊎_elim (λ p. (omega (arith, p.0), omega (arith, p.1))) (λ p. (omega (arith, p.0), omega (arith, p.1))) o

    go : (n ≡ i) ⊎ (n ≡ i → ⊥) → (j < frame_at i + a) ⊎ (frame_at i + b ≤ j)
    go (inl q) = same q o h
    go (inr q) =
        ⊎_elim
        (λ (k : n < i). inl (omega (arith, e, k, small, wide.0)))
        (λ (k : i < n). inr (omega (arith, e, k, wide.1)))
        (apart n i q)

pub ghost-holder : {v w : List ℕ} (i n : ℕ) → Bare v w → Bare (put_word v (frame_at i + frame_holder) n) w
ghost-holder {v} i n B =
    ghost-only (frame_at i + frame_holder) (frame_at i + frame_row)
    (only-word (frame_at i + frame_holder) (frame_at i + frame_row) v (frame_at i + frame_holder) n (omega arith) (omega arith))
    (tail-unseen i frame_holder frame_row (inl (refl, refl))) B

pub ghost-method : {v w : List ℕ} (i n : ℕ) → Bare v w → Bare (set v (frame_at i + frame_method) n) w
ghost-method {v} i n B =
    ghost-only (frame_at i + frame_method) (frame_at i + frame_method + 1)
    (only-byte (frame_at i + frame_method) (frame_at i + frame_method + 1) v (frame_at i + frame_method) n (omega arith) (omega arith))
    (λ j s. ⊎_elim inl (λ l. inr (omega (arith, l))) (tail-unseen i frame_method (frame_method + 1) (inr (refl, refl)) j s)) B

-- WHAT IS READ
module _ {v w : List ℕ} (B : Bare v w) where
  pub bare-tables : SameTables v w
  bare-tables = record { size = B.size; bytes = λ i l h. B.bytes i (inl (omega arith)) }

  pub bare-value : (k : ℕ) → k < heap_fields → cell_value w k ≡ cell_value v k
  unfolding cell_value
  bare-value k l = word_kept values_at holders_at v w (λ i a b. B.bytes i (inl b)) (values_at + k * 4) (omega arith) (omega arith)

  objects-kept : Kept objects_at frames_at v w
  objects-kept i l h = B.bytes i (inr (inl (l, h)))

  pub bare-class : (i : ℕ) → i < heap_objects → class_in w i ≡ class_in v i
  unfolding class_in
  bare-class i l = objects-kept (objects_at + i * 4) (omega arith) (omega arith)

  pub bare-first : (i : ℕ) → i < heap_objects → first_in w i ≡ first_in v i
  unfolding first_in
  bare-first i l = half-kept objects_at frames_at v w objects-kept (objects_at + i * 4 + 2) (omega arith) (omega arith)

  frame-kept : (n : ℕ) → Kept (frame_at n) (frame_at n + frame_holder) v w
  frame-kept n i l h = B.bytes i (inr (inr (n, i - frame_at n, omega arith, inl (omega arith))))

  pub bare-variable : (n x : ℕ) → x < frame_variables → variable_at w (frame_at n) x ≡ variable_at v (frame_at n) x
  unfolding variable_at
  bare-variable n x l = word_kept (frame_at n) (frame_at n + frame_holder) v w (frame-kept n) (frame_at n + x * 4) (omega arith) (omega arith)

  pub bare-row : (n : ℕ) → saved_row w n ≡ saved_row v n
  unfolding saved_row
  bare-row n =
      half-kept (frame_at n + frame_row) (frame_at n + frame_method) v w
      (λ i l h. B.bytes i (inr (inr (n, i - frame_at n, omega arith, inr (omega arith, omega arith)))))
      (frame_at n + frame_row) (omega arith) (omega arith)
