-- The stores of a new object: what each leaves, and what it puts.
use mathlib.Core.Path.{◌≡◌, refl, ◌∙◌}
use mathlib.Core.List.{List}
use mathlib.Core.Logic.{inl, inr}
use Prim.Native.Nat.{ℕ, ◌+◌, ◌*◌, ◌≤◌, ◌<◌}
use native.Mathlib.Omega.{arith}
use lib.Dec.{eqb}
use lib.ListN.{length, set}
use lib.Seq.{get_or-set_same}
use Rattle.rules.specs.Limits.{work_bytes, heap_objects, heap_fields}
use Rattle.tables.specs.Layout.{values_at, holders_at, objects_at, frames_at}
use Rattle.tables.specs.Decode.{word_at}
use Rattle.tables.specs.Stores.{put_half}
use Rattle.tables.proofs.BytesRead.{half-put, word_kept, half-kept}
use Rattle.run_heap.specs.Views.{cell_value, cell_holders_at, first_holder, second_holder, one, halves_at, class_in, first_in, fill, made}
use Rattle.run_footprint.proofs.Regions.{Only, only-trans, only-wide, only-half, only-byte, only-fill, only_kept, fill-word, class-in-kept, first-in-kept}
use Rattle.run_footprint.proofs.Cells.{SameObjects}

module _ (w : List ℕ) (i k n class holder : ℕ) (size : length w ≡ work_bytes) (li : i < heap_objects) (lk : k + n ≤ heap_fields)
    (lh : holder < 4294967296) where
  u1 : List ℕ
  u1 = set w (objects_at + i * 4) class

  u2 : List ℕ
  u2 = put_half u1 (objects_at + i * 4 + 2) k

  u3 : List ℕ
  u3 = fill u2 (values_at + k * 4) n 0

  u4 : List ℕ
  u4 = fill u3 (holders_at + k * 8) (n * 2) holder

  is_made : made w i k n class holder ≡ u4
  unfolding made u4 u3 u2 u1
  is_made = refl

  to-1 : Only (objects_at + i * 4) (objects_at + i * 4 + 1) w u1
  unfolding u1
  to-1 = only-byte _ _ w (objects_at + i * 4) class (omega arith) (omega arith)

  to-2 : Only (objects_at + i * 4 + 2) (objects_at + i * 4 + 4) u1 u2
  unfolding u2
  to-2 = only-half _ _ u1 (objects_at + i * 4 + 2) k (omega arith) (omega arith)

  to-3 : Only (values_at + k * 4) (values_at + k * 4 + n * 4) u2 u3
  unfolding u3
  to-3 = only-fill _ _ u2 (values_at + k * 4) n 0 (omega arith) (omega arith)

  to-4 : Only (holders_at + k * 8) (holders_at + k * 8 + n * 8) u3 u4
  unfolding u4
  to-4 = only-fill _ _ u3 (holders_at + k * 8) (n * 2) holder (omega arith) (omega arith)

  pub made-only : Only values_at frames_at w (made w i k n class holder)
  made-only =
      rw is_made
      (only-trans (only-wide to-1 (omega arith) (omega arith))
      (only-trans (only-wide to-2 (omega arith) (omega arith))
      (only-trans (only-wide to-3 (omega arith) (omega arith)) (only-wide to-4 (omega arith) (omega arith)))))

  -- THE OBJECT'S ROW
  late-class : (j : ℕ) → j < heap_objects → class_in u4 j ≡ class_in u2 j
  late-class j l =
      class-in-kept _ _ u3 u4 to-4 (inr (omega arith)) j l ∙ class-in-kept _ _ u2 u3 to-3 (inr (omega arith)) j l

  late-first : (j : ℕ) → j < heap_objects → first_in u4 j ≡ first_in u2 j
  late-first j l =
      first-in-kept _ _ u3 u4 to-4 (inr (omega arith)) j l ∙ first-in-kept _ _ u2 u3 to-3 (inr (omega arith)) j l

  pub made-class : class_in (made w i k n class holder) i ≡ class
  unfolding class_in u1
  made-class =
      rw is_made
      (late-class i li
      ∙ (to-2.bytes (objects_at + i * 4) (inl (omega arith)) ∙ get_or-set_same w (objects_at + i * 4) class 0 (omega (arith, size))))

  pub made-first : first_in (made w i k n class holder) i ≡ k
  unfolding first_in u2
  made-first = rw is_made (late-first i li ∙ half-put u1 (objects_at + i * 4 + 2) k (omega (arith, size, to-1.size)) (omega arith))

  other-class : (j : ℕ) → j < i → class_in (made w i k n class holder) j ≡ class_in w j
  unfolding class_in
  other-class j l =
      rw is_made
      (late-class j (omega arith)
      ∙ (to-2.bytes (objects_at + j * 4) (inl (omega arith)) ∙ to-1.bytes (objects_at + j * 4) (inl (omega arith))))

  other-first : (j : ℕ) → j < i → first_in (made w i k n class holder) j ≡ first_in w j
  unfolding first_in
  other-first j l =
      rw is_made
      (late-first j (omega arith)
      ∙ (half-kept objects_at (objects_at + i * 4) u1 u2 (only_kept to-2 objects_at (objects_at + i * 4) (inl (omega arith))) (objects_at + j * 4 + 2) (omega arith) (omega arith)
      ∙ half-kept objects_at (objects_at + i * 4) w u1 (only_kept to-1 objects_at (objects_at + i * 4) (inl (omega arith))) (objects_at + j * 4 + 2) (omega arith) (omega arith)))

  pub made-objects : SameObjects i w (made w i k n class holder)
  made-objects = record { class = other-class; first = other-first }

  -- ITS CELLS
  pub old-value : (j : ℕ) → j < k → cell_value (made w i k n class holder) j ≡ cell_value w j
  unfolding cell_value
  old-value j l =
      rw is_made
      (word_kept values_at holders_at u3 u4 (only_kept to-4 values_at holders_at (inl (omega arith))) (values_at + j * 4) (omega arith) (omega arith)
      ∙ (word_kept values_at (values_at + k * 4) u2 u3 (only_kept to-3 values_at (values_at + k * 4) (inl (omega arith))) (values_at + j * 4) (omega arith) (omega arith)
      ∙ (word_kept values_at holders_at u1 u2 (only_kept to-2 values_at holders_at (inl (omega arith))) (values_at + j * 4) (omega arith) (omega arith)
      ∙ word_kept values_at holders_at w u1 (only_kept to-1 values_at holders_at (inl (omega arith))) (values_at + j * 4) (omega arith) (omega arith))))

  old-word : (a : ℕ) → holders_at ≤ a → a + 4 ≤ holders_at + k * 8 → word_at (made w i k n class holder) a ≡ word_at w a
  old-word a l h =
      rw is_made
      (word_kept holders_at (holders_at + k * 8) u3 u4 (only_kept to-4 holders_at (holders_at + k * 8) (inl (omega arith))) a l h
      ∙ (word_kept holders_at objects_at u2 u3 (only_kept to-3 holders_at objects_at (inr (omega arith))) a l (omega arith)
      ∙ (word_kept holders_at objects_at u1 u2 (only_kept to-2 holders_at objects_at (inl (omega arith))) a l (omega arith)
      ∙ word_kept holders_at objects_at w u1 (only_kept to-1 holders_at objects_at (inl (omega arith))) a l (omega arith))))

  pub old-halves : (number j : ℕ) → j < k → halves_at (made w i k n class holder) number j ≡ halves_at w number j
  unfolding halves_at first_holder second_holder
  old-halves number j l =
      rw (old-word (cell_holders_at j) (omega arith) (omega arith), old-word (cell_holders_at j + 4) (omega arith) (omega arith))

  pub new-value : (j : ℕ) → j < n → cell_value (made w i k n class holder) (k + j) ≡ 0
  unfolding cell_value u3
  new-value j l =
      let e : values_at + (k + j) * 4 ≡ values_at + k * 4 + j * 4 = omega arith in
      rw (is_made, e)
      (word_kept values_at holders_at u3 u4 (only_kept to-4 values_at holders_at (inl (omega arith))) (values_at + k * 4 + j * 4) (omega arith) (omega arith)
      ∙ fill-word u2 (values_at + k * 4) n 0 j (omega (arith, size, to-1.size, to-2.size)) (omega arith) l)

  new_word : (a j : ℕ) → a ≡ holders_at + k * 8 + j * 4 → j < n * 2 → word_at (made w i k n class holder) a ≡ holder
  unfolding u4
  new_word a j e l =
      rw (is_made, e) (fill-word u3 (holders_at + k * 8) (n * 2) holder j (omega (arith, size, to-1.size, to-2.size, to-3.size)) lh l)

  -- both halves of each are with the number
  pub new-halves :
      (number j : ℕ) → j < n →
      halves_at (made w i k n class holder) number (k + j) ≡ one (eqb holder number) + one (eqb holder number)
  unfolding halves_at first_holder second_holder
  new-halves number j l =
      rw (
        new_word (cell_holders_at (k + j)) (j * 2) (omega arith) (omega arith),
        new_word (cell_holders_at (k + j) + 4) (j * 2 + 1) (omega arith) (omega arith),
      )
