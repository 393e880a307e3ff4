-- Bytes above the running frame are free: a ghost can have them as the lean machine's stores do.
use mathlib.Core.Path.{◌≡◌, refl, sym, ap, ◌∙◌}
use mathlib.Core.List.{List}
use mathlib.Core.Logic.{◌⊎◌, inl, inr, ⊎_elim}
use Prim.Native.Nat.{ℕ, zero, suc, ◌+◌, ◌%◌, ◌/◌, ◌≤◌, ◌<◌}
use native.Mathlib.Omega.{arith}
use lib.ListN.{length, set, length-set}
use lib.Seq.{get_or-set_same, set_comm}
use Rattle.rules.specs.Machine.{Config}
use Rattle.rules.proofs.Lists.{decide_eq}
use Rattle.tables.specs.Layout.{frames_at}
use Rattle.tables.specs.Decode.{byte_at}
use Rattle.tables.specs.Stores.{put_word}
use Rattle.run_heap.specs.Views.{frame_at, method_of, frame_method}
use Rattle.run_footprint.proofs.Regions.{Only, only-refl, only-trans, only-wide, only-byte, apart}
use Rattle.run_calls.proofs.Calling.{above_kept}
use Rattle.lean_heap.specs.declared.Counters.{Counters}
use Rattle.lean_heap.specs.Ghosts.{Stands}

-- v with n bytes of w from a on
patched : List ℕ → List ℕ → ℕ → ℕ → List ℕ
patched v w a zero = v
patched v w a (suc n) = patched (set v a (byte_at w a)) w (suc a) n

patched-only : (v w : List ℕ) (a n b : ℕ) → b ≡ a + n → Only a b v (patched v w a n)
unfolding patched
patched-only v w a zero b e = only-refl a b v
patched-only v w a (suc n) b e =
    only-trans (only-byte a b v a (byte_at w a) (omega arith) (omega (arith, e)))
    (only-wide (patched-only (set v a (byte_at w a)) w (suc a) n b (omega (arith, e))) (omega arith) (omega arith))

patched-byte :
    (v w : List ℕ) (a n j : ℕ) → a + n ≤ length v → a ≤ j → j < a + n → byte_at (patched v w a n) j ≡ byte_at w j
unfolding patched
patched-byte v w a zero j l h k = absurd (omega arith)
patched-byte v w a (suc n) j l h k =
    let v1 : List ℕ = set v a (byte_at w a) in
    ⊎_elim
    (λ (e : j ≡ a).
    rw e
    ((patched-only v1 w (suc a) n (suc a + n) refl).bytes a (inl (omega arith))
    ∙ get_or-set_same v a (byte_at w a) 0 (omega arith)))
    (λ (d : j ≡ a → ⊥).
    patched-byte v1 w (suc a) n j (omega (arith, l, length-set v a (byte_at w a))) (omega (arith, h, d)) (omega (arith, k)))
    (decide_eq j a)

below_or : (j a : ℕ) → (j < a) ⊎ (a ≤ j)
below_or j a = ⊎_elim (λ e. inr (omega (arith, e))) (λ d. ⊎_elim inl (λ l. inr (omega arith)) (apart j a d)) (decide_eq j a)

pub above-free :
    {w w' : List ℕ} {c : Counters} {m : Config} (a n : ℕ) → frame_at c.frames ≤ a → a + n ≤ frames_at + 8192 →
    Only a (a + n) w w' → Stands w c m → Stands w' c m
unfolding method_of
above-free {w} {w'} {c} {m} a n l h s S =
    let v : List ℕ = S.ghost in
    let P = patched-only v w' a n (a + n) refl in
    let f : frame_at (length m.callers) + 72 ≤ a = omega (arith, l, S.represents.frames) in
    record {
      ghost = patched v w' a n;
      holder = S.holder;
      holders = S.holders;
      base = S.base;
      represents =
          above_kept S.represents (patched v w' a n) (only-wide P (omega (arith, f)) h)
          (P.bytes (frame_at (length m.callers) + frame_method) (inl (omega (arith, f))));
      bare =
          record {
            size = s.size ∙ (S.bare.size ∙ sym P.size);
            bytes = λ j q.
                ⊎_elim
                (λ b. s.bytes j (inl b) ∙ (S.bare.bytes j q ∙ sym (P.bytes j (inl b))))
                (λ b.
                ⊎_elim
                (λ t. sym (patched-byte v w' a n j (omega (arith, h, S.represents.tables.size)) b t))
                (λ t. s.bytes j (inr t) ∙ (S.bare.bytes j q ∙ sym (P.bytes j (inr t))))
                (below_or j (a + n)))
                (below_or j a);
          };
    }

-- two words that are apart
set_word : (w : List ℕ) (i a j b : ℕ) → j < i → set (put_word w i a) j b ≡ put_word (set w j b) i a
unfolding put_word
set_word w i a j b l =
    let w1 : List ℕ = set w i (a % 256) in
    let w2 : List ℕ = set w1 (i + 1) (a / 256 % 256) in
    let w3 : List ℕ = set w2 (i + 2) (a / 65536 % 256) in
    set_comm w3 (i + 3) j (a / 16777216 % 256) b (λ e. omega (arith, l, e))
    ∙ (ap (λ (u : List ℕ). set u (i + 3) (a / 16777216 % 256)) (set_comm w2 (i + 2) j (a / 65536 % 256) b (λ e. omega (arith, l, e)))
    ∙ (ap (λ (u : List ℕ). set (set u (i + 2) (a / 65536 % 256)) (i + 3) (a / 16777216 % 256)) (set_comm w1 (i + 1) j (a / 256 % 256) b (λ e. omega (arith, l, e)))
    ∙ ap (λ (u : List ℕ). set (set (set u (i + 1) (a / 256 % 256)) (i + 2) (a / 65536 % 256)) (i + 3) (a / 16777216 % 256)) (set_comm w i j (a % 256) b (λ e. omega (arith, l, e)))))

pub words-apart : (w : List ℕ) (i a j b : ℕ) → j + 4 ≤ i → put_word (put_word w i a) j b ≡ put_word (put_word w j b) i a
unfolding put_word
words-apart w i a j b l =
    let w1 : List ℕ = set w j (b % 256) in
    let w2 : List ℕ = set w1 (j + 1) (b / 256 % 256) in
    let w3 : List ℕ = set w2 (j + 2) (b / 65536 % 256) in
    ap (λ (u : List ℕ). set (set (set u (j + 1) (b / 256 % 256)) (j + 2) (b / 65536 % 256)) (j + 3) (b / 16777216 % 256)) (set_word w i a j (b % 256) (omega arith))
    ∙ (ap (λ (u : List ℕ). set (set u (j + 2) (b / 65536 % 256)) (j + 3) (b / 16777216 % 256)) (set_word w1 i a (j + 1) (b / 256 % 256) (omega arith))
    ∙ (ap (λ (u : List ℕ). set u (j + 3) (b / 16777216 % 256)) (set_word w2 i a (j + 2) (b / 65536 % 256) (omega arith))
    ∙ set_word w3 i a (j + 3) (b / 16777216 % 256) (omega arith)))
