-- Stores change bytes of one region alone: what each store leaves, and what it puts.
use mathlib.Core.Path.{◌≡◌, refl, ap, ◌∙◌}
use mathlib.Core.List.{List}
use mathlib.Core.Logic.{◌⊎◌, inl, inr, ⊎_elim}
use Prim.Native.Nat.{ℕ, zero, suc, ◌+◌, ◌*◌, ◌≤◌, ◌<◌}
use native.Mathlib.Omega.{arith}
use lib.ListN.{length, set, length-set}
use lib.Seq.{get_or-set_other}
use Rattle.rules.specs.Limits.{heap_objects, heap_fields}
use Rattle.tables.specs.Layout.{names_at, values_at, holders_at, objects_at, frames_at, frame_variables, frame_bytes}
use Rattle.tables.specs.Decode.{byte_at, word_at}
use Rattle.tables.specs.Stores.{put_half, put_word, Kept, SameTables}
use Rattle.tables.proofs.BytesRead.{put-word-length, put-word-byte, put-half-length, put-half-byte, word-put, word_kept, half-kept}
use Rattle.run_heap.specs.Views.{frame_at, variable_at, saved_holder, saved_row, method_of, cell_value, first_holder, second_holder, halves_at, class_in, first_in, fill, frame_holder, frame_row, frame_method}

-- bytes from a up to b may differ, and no others
pub record Only (a b : ℕ) (w w' : List ℕ) : Type 0 where
  pub size : length w' ≡ length w
  pub bytes : (j : ℕ) → (j < a) ⊎ (b ≤ j) → byte_at w' j ≡ byte_at w j

pub only-refl : (a b : ℕ) (w : List ℕ) → Only a b w w
only-refl a b w = record { size = refl; bytes = λ j o. refl }

pub only-trans : {a b : ℕ} {w w' w'' : List ℕ} → Only a b w w' → Only a b w' w'' → Only a b w w''
only-trans s t = record { size = t.size ∙ s.size; bytes = λ j o. t.bytes j o ∙ s.bytes j o }

pub only-wide : {a b c d : ℕ} {w w' : List ℕ} → Only a b w w' → c ≤ a → b ≤ d → Only c d w w'
only-wide {a} {b} {c} {d} s l h =
    record { size = s.size; bytes = λ j o. s.bytes j (⊎_elim (λ p. inl (omega arith)) (λ p. inr (omega arith)) o) }

-- ONE STORE
pub only-word : (a b : ℕ) (w : List ℕ) (i v : ℕ) → a ≤ i → i + 4 ≤ b → Only a b w (put_word w i v)
only-word a b w i v l h =
    record {
      size = put-word-length w i v;
      bytes = λ j o. put-word-byte w i v j (⊎_elim (λ p. inl (omega arith)) (λ p. inr (omega arith)) o);
    }

pub only-half : (a b : ℕ) (w : List ℕ) (i v : ℕ) → a ≤ i → i + 2 ≤ b → Only a b w (put_half w i v)
only-half a b w i v l h =
    record {
      size = put-half-length w i v;
      bytes = λ j o. put-half-byte w i v j (⊎_elim (λ p. inl (omega arith)) (λ p. inr (omega arith)) o);
    }

pub only-byte : (a b : ℕ) (w : List ℕ) (i v : ℕ) → a ≤ i → i < b → Only a b w (set w i v)
only-byte a b w i v l h =
    record {
      size = length-set w i v;
      bytes = λ j o. get_or-set_other w i j v 0 (λ e. ⊎_elim (λ p. omega arith) (λ p. omega arith) o);
    }

-- MANY STORES
pub only-fill : (a b : ℕ) (w : List ℕ) (i n v : ℕ) → a ≤ i → i + n * 4 ≤ b → Only a b w (fill w i n v)
unfolding fill
only-fill a b w i zero v l h = only-refl a b w
only-fill a b w i (suc n) v l h =
    only-trans (only-word a b w i v l (omega arith)) (only-fill a b (put_word w i v) (i + 4) n v (omega arith) (omega arith))

fill-before : (w : List ℕ) (i n v j : ℕ) → j + 4 ≤ i → word_at (fill w i n v) j ≡ word_at w j
fill-before w i n v j l =
    word_kept 0 i w (fill w i n v) (λ k _ h. (only-fill i (i + n * 4) w i n v (omega arith) (omega arith)).bytes k (inl h)) j (omega arith) l

pub fill-word :
    (w : List ℕ) (i n v j : ℕ) → i + n * 4 ≤ length w → v < 4294967296 → j < n → word_at (fill w i n v) (i + j * 4) ≡ v
unfolding fill
fill-word w i zero v j l b h = absurd (omega arith)
fill-word w i (suc n) v zero l b h =
    let e : i + 0 * 4 ≡ i = omega arith in
    rw e (fill-before (put_word w i v) (i + 4) n v i (omega arith) ∙ word-put w i v (omega arith) b)
fill-word w i (suc n) v (suc j) l b h =
    let e : i + suc j * 4 ≡ i + 4 + j * 4 = omega arith in
    rw e (fill-word (put_word w i v) (i + 4) n v j (omega (arith, put-word-length w i v)) b (omega arith))

-- WHAT STAYS
pub only_kept : {a b : ℕ} {w w' : List ℕ} → Only a b w w' → (c d : ℕ) → (d ≤ a) ⊎ (b ≤ c) → Kept c d w w'
only_kept s c d o i l h = s.bytes i (⊎_elim (λ p. inl (omega arith)) (λ p. inr (omega arith)) o)

pub only-tables : {a b : ℕ} {w w' : List ℕ} → Only a b w w' → names_at ≤ a → SameTables w w'
only-tables s l = record { size = s.size; bytes = only_kept s 0 names_at (inl l) }

module _ (a b : ℕ) (w w' : List ℕ) (s : Only a b w w') where
  pub variable-kept : (i x : ℕ) → (i + frame_holder ≤ a) ⊎ (b ≤ i) → x < frame_variables → variable_at w' i x ≡ variable_at w i x
  unfolding variable_at
  variable-kept i x o l = word_kept i (i + frame_holder) w w' (only_kept s i (i + frame_holder) o) (i + x * 4) (omega arith) (omega arith)

  pub saved-holder-kept : (i : ℕ) → (frame_at i + frame_bytes ≤ a) ⊎ (b ≤ frame_at i) → saved_holder w' i ≡ saved_holder w i
  unfolding saved_holder
  saved-holder-kept i o =
      word_kept (frame_at i) (frame_at i + frame_bytes) w w' (only_kept s (frame_at i) (frame_at i + frame_bytes) o) (frame_at i + frame_holder) (omega arith) (omega arith)

  pub saved-row-kept : (i : ℕ) → (frame_at i + frame_bytes ≤ a) ⊎ (b ≤ frame_at i) → saved_row w' i ≡ saved_row w i
  unfolding saved_row
  saved-row-kept i o =
      half-kept (frame_at i) (frame_at i + frame_bytes) w w' (only_kept s (frame_at i) (frame_at i + frame_bytes) o) (frame_at i + frame_row) (omega arith) (omega arith)

  pub method-kept : (i : ℕ) → (frame_at i + frame_bytes ≤ a) ⊎ (b ≤ frame_at i) → method_of w' i ≡ method_of w i
  unfolding method_of
  method-kept i o = only_kept s (frame_at i) (frame_at i + frame_bytes) o (frame_at i + frame_method) (omega arith) (omega arith)

  pub value-kept : (holders_at ≤ a) ⊎ (b ≤ values_at) → (k : ℕ) → k < heap_fields → cell_value w' k ≡ cell_value w k
  unfolding cell_value
  value-kept o k l =
      word_kept values_at holders_at w w' (only_kept s values_at holders_at o) (values_at + k * 4) (omega arith) (omega arith)

  pub halves-kept : (objects_at ≤ a) ⊎ (b ≤ holders_at) → (h k : ℕ) → k < heap_fields → halves_at w' h k ≡ halves_at w h k
  unfolding halves_at first_holder second_holder
  halves-kept o h k l =
      rw (
        word_kept holders_at objects_at w w' (only_kept s holders_at objects_at o) (holders_at + k * 8) (omega arith) (omega arith),
        word_kept holders_at objects_at w w' (only_kept s holders_at objects_at o) (holders_at + k * 8 + 4) (omega arith) (omega arith),
      )

  pub class-in-kept : (frames_at ≤ a) ⊎ (b ≤ objects_at) → (i : ℕ) → i < heap_objects → class_in w' i ≡ class_in w i
  unfolding class_in
  class-in-kept o i l = only_kept s objects_at frames_at o (objects_at + i * 4) (omega arith) (omega arith)

  pub first-in-kept : (frames_at ≤ a) ⊎ (b ≤ objects_at) → (i : ℕ) → i < heap_objects → first_in w' i ≡ first_in w i
  unfolding first_in
  first-in-kept o i l =
      half-kept objects_at frames_at w w' (only_kept s objects_at frames_at o) (objects_at + i * 4 + 2) (omega arith) (omega arith)

-- TWO NUMBERS
pub apart : (k j : ℕ) → (k ≡ j → ⊥) → (k < j) ⊎ (j < k)
apart zero zero d = absurd (d refl)
apart zero (suc j) d = inl (omega arith)
apart (suc k) zero d = inr (omega arith)
apart (suc k) (suc j) d = ⊎_elim (λ l. inl (omega arith)) (λ l. inr (omega arith)) (apart k j (λ e. d (ap suc e)))
