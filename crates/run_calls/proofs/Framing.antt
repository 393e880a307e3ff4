-- The stores of a call: what each leaves, and what it puts.
use mathlib.Core.Path.{◌≡◌, refl, sym, ap, ◌∙◌}
use mathlib.Core.List.{List}
use mathlib.Core.Logic.{inl, inr}
use Prim.Native.Nat.{ℕ, zero, suc, ◌+◌, ◌*◌, ◌≤◌, ◌<◌}
use native.Mathlib.Omega.{arith}
use lib.ListN.{length, get_or, set, get_or-replicate}
use lib.Seq.{get_or-set_same}
use Rattle.rules.specs.Machine.{entry_values}
use Rattle.tables.specs.Layout.{frame_variables}
use Rattle.tables.specs.Decode.{byte_at, half_at, word_at}
use Rattle.tables.specs.Stores.{put_half, put_word}
use Rattle.tables.proofs.BytesRead.{word-put, half-put, word_kept, half-kept, put-word-length}
use Rattle.run_heap.specs.Views.{variable_at, fill, frame_put, frame_holder, frame_row, frame_method}
use Rattle.run_footprint.proofs.Regions.{Only, only-trans, only-wide, only-word, only-half, only-byte, only-fill, only_kept, fill-word, variable-kept}
use Rattle.run_steps.proofs.Changes.{other-variable, this_variable}

module _ (w : List ℕ) (a b holder row method o p : ℕ) (next : b ≡ a + 72) (fits : b + 72 ≤ length w) where
  filled : List ℕ
  filled = fill w b frame_variables 0

  first : List ℕ
  first = put_word filled b o

  second : List ℕ
  second = put_word first (b + 4) p

  third : List ℕ
  third = put_word second (a + frame_holder) holder

  fourth : List ℕ
  fourth = put_half third (a + frame_row) row

  all : List ℕ
  all = set fourth (b + frame_method) method

  is_framed : frame_put w a b holder row method o p ≡ all
  unfolding frame_put all fourth third second first filled
  is_framed = refl

  to-second : Only b (b + frame_holder) w second
  unfolding second first filled
  to-second =
      only-trans (only-fill b (b + frame_holder) w b frame_variables 0 (omega arith) (omega arith))
      (only-trans (only-word b (b + frame_holder) (fill w b frame_variables 0) b o (omega arith) (omega arith))
      (only-word b (b + frame_holder) (put_word (fill w b frame_variables 0) b o) (b + 4) p (omega arith) (omega arith)))

  to-third : Only (a + frame_holder) (a + frame_row) second third
  unfolding third
  to-third = only-word (a + frame_holder) (a + frame_row) second (a + frame_holder) holder (omega arith) (omega arith)

  to-fourth : Only (a + frame_row) (a + frame_method) third fourth
  unfolding fourth
  to-fourth = only-half (a + frame_row) (a + frame_method) third (a + frame_row) row (omega arith) (omega arith)

  to-all : Only (b + frame_method) (b + 67) fourth all
  unfolding all
  to-all = only-byte (b + frame_method) (b + 67) fourth (b + frame_method) method (omega arith) (omega arith)

  pub framed-only : Only (a + frame_holder) (b + 67) w (frame_put w a b holder row method o p)
  framed-only =
      rw is_framed
      (only-trans (only-wide to-second (omega arith) (omega arith))
      (only-trans (only-wide to-third (omega arith) (omega arith))
      (only-trans (only-wide to-fourth (omega arith) (omega arith)) (only-wide to-all (omega arith) (omega arith)))))

  pub framed-before : byte_at (frame_put w a b holder row method o p) (a + frame_method) ≡ byte_at w (a + frame_method)
  framed-before =
      rw is_framed
      (to-all.bytes (a + frame_method) (inl (omega arith))
      ∙ (to-fourth.bytes (a + frame_method) (inr (omega arith))
      ∙ (to-third.bytes (a + frame_method) (inr (omega arith)) ∙ to-second.bytes (a + frame_method) (inl (omega arith)))))

  pub framed-method : byte_at (frame_put w a b holder row method o p) (b + frame_method) ≡ method
  unfolding all
  framed-method =
      rw is_framed
      (get_or-set_same fourth (b + frame_method) method 0
      (omega (arith, to-fourth.size, to-third.size, to-second.size)))

  pub framed-holder : holder < 4294967296 → word_at (frame_put w a b holder row method o p) (a + frame_holder) ≡ holder
  unfolding third
  framed-holder l =
      rw is_framed
      (word_kept (a + frame_holder) (a + frame_row) fourth all (only_kept to-all (a + frame_holder) (a + frame_row) (inl (omega arith))) (a + frame_holder) (omega arith) (omega arith)
      ∙ (word_kept (a + frame_holder) (a + frame_row) third fourth (only_kept to-fourth (a + frame_holder) (a + frame_row) (inl (omega arith))) (a + frame_holder) (omega arith) (omega arith)
      ∙ word-put second (a + frame_holder) holder (omega (arith, to-second.size)) l))

  pub framed-row : row < 65536 → half_at (frame_put w a b holder row method o p) (a + frame_row) ≡ row
  unfolding fourth
  framed-row l =
      rw is_framed
      (half-kept (a + frame_row) (a + frame_method) fourth all (only_kept to-all (a + frame_row) (a + frame_method) (inl (omega arith))) (a + frame_row) (omega arith) (omega arith)
      ∙ half-put third (a + frame_row) row (omega (arith, to-third.size, to-second.size)) l)

  -- THE VALUES
  kept-variable : (x : ℕ) → x < frame_variables → variable_at all b x ≡ variable_at second b x
  kept-variable x l =
      variable-kept (b + frame_method) (b + 67) fourth all to-all b x (inl (omega arith)) l
      ∙ (variable-kept (a + frame_row) (a + frame_method) third fourth to-fourth b x (inr (omega arith)) l
      ∙ variable-kept (a + frame_holder) (a + frame_row) second third to-third b x (inr (omega arith)) l)

  zeros : (x : ℕ) → x < frame_variables → variable_at filled b x ≡ 0
  unfolding variable_at filled
  zeros x l = fill-word w b frame_variables 0 x (omega arith) (omega arith) l

  module _ (lo : o < 4294967296) (lp : p < 4294967296) where
    start : put_word filled b o ≡ put_word filled (b + 0 * 4) o
    start = let e : b + 0 * 4 ≡ b = omega arith in rw e

    filled-size : length filled ≡ length w
    unfolding filled
    filled-size = (only-fill b (b + frame_holder) w b frame_variables 0 (omega arith) (omega arith)).size

    in-second : (x : ℕ) → x < frame_variables → get_or (entry_values o p) x 0 ≡ variable_at second b x
    unfolding entry_values second first
    in-second zero l =
        sym (other-variable (put_word filled b o) b 1 0 p (λ e. omega arith)
        ∙ (ap (λ (u : List ℕ). variable_at u b 0) start ∙ this_variable filled b 0 o (omega (arith, filled-size)) lo))
    in-second (suc zero) l = sym (this_variable (put_word filled b o) b 1 p (omega (arith, filled-size, put-word-length filled b o)) lp)
    in-second (suc (suc x)) l =
        get_or-replicate 13 x 0 0 (omega arith)
        ∙ sym (other-variable (put_word filled b o) b 1 (suc (suc x)) p (λ e. omega arith)
        ∙ (ap (λ (u : List ℕ). variable_at u b (suc (suc x))) start
        ∙ (other-variable filled b 0 (suc (suc x)) o (λ e. omega arith) ∙ zeros (suc (suc x)) l)))

    pub framed-values : (x : ℕ) → x < frame_variables → get_or (entry_values o p) x 0 ≡ variable_at (frame_put w a b holder row method o p) b x
    framed-values x l = rw is_framed (in-second x l ∙ sym (kept-variable x l))
