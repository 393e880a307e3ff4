-- Laws of numbers in an area: what was put is read back, and other bytes stay.
use mathlib.Core.Path.{◌≡◌, refl, ◌∙◌}
use mathlib.Core.List.{List}
use mathlib.Core.Logic.{◌⊎◌, inl, inr}
use Prim.Native.Nat.{ℕ, ◌+◌, ◌*◌, ◌/◌, ◌%◌, ◌≤◌, ◌<◌}
use native.Mathlib.Nat.{div-div-eq-div-mul, div-add-mod', mod-eq_of_lt}
use native.Mathlib.Omega.{arith}
use lib.ListN.{length, get_or, set, length-set}
use lib.Seq.{get_or-set_same, get_or-set_other}
use Rattle.tables.specs.Decode.{byte_at, half_at, word_at}
use Rattle.tables.specs.Stores.{put_half, put_word, Kept, SameTables}

-- j is none of the n places from i on
abbrev pub Outside : ℕ → ℕ → ℕ → Type 0
Outside i n j = (j < i) ⊎ (i + n ≤ j)

apart : (i n j k : ℕ) → Outside i n j → k < n → j ≡ i + k → ⊥
apart i n j k (inl a) l e = omega arith
apart i n j k (inr a) l e = omega arith

-- WHAT WAS PUT
pub put-half-length : (w : List ℕ) (i v : ℕ) → length (put_half w i v) ≡ length w
unfolding put_half
put-half-length w i v = simp length-set

pub put-word-length : (w : List ℕ) (i v : ℕ) → length (put_word w i v) ≡ length w
unfolding put_word
put-word-length w i v = simp length-set

pub put-half-byte : (w : List ℕ) (i v j : ℕ) → Outside i 2 j → byte_at (put_half w i v) j ≡ byte_at w j
unfolding put_half
put-half-byte w i v j o =
    get_or-set_other (set w i (v % 256)) (i + 1) j (v / 256) 0 (apart i 2 j 1 o (omega arith))
    ∙ get_or-set_other w i j (v % 256) 0 (λ e. apart i 2 j 0 o (omega arith) (omega arith))

pub put-word-byte : (w : List ℕ) (i v j : ℕ) → Outside i 4 j → byte_at (put_word w i v) j ≡ byte_at w j
unfolding put_word
put-word-byte w i v j o =
    let a : List ℕ = set w i (v % 256) in
    let d : List ℕ = set a (i + 1) (v / 256 % 256) in
    let e : List ℕ = set d (i + 2) (v / 65536 % 256) in
    get_or-set_other e (i + 3) j (v / 16777216 % 256) 0 (apart i 4 j 3 o (omega arith))
    ∙ (get_or-set_other d (i + 2) j (v / 65536 % 256) 0 (apart i 4 j 2 o (omega arith))
    ∙ (get_or-set_other a (i + 1) j (v / 256 % 256) 0 (apart i 4 j 1 o (omega arith))
    ∙ get_or-set_other w i j (v % 256) 0 (λ e. apart i 4 j 0 o (omega arith) (omega arith))))

summed :
    (v a b c r s t : ℕ) → a * 256 + r ≡ v → b * 256 + s ≡ a → c * 256 + t ≡ b →
    r + s * 256 + t * 65536 + c * 16777216 ≡ v
summed v a b c r s t e f g = omega arith

digits :
    (v : ℕ) → v < 4294967296 →
    v % 256 + v / 256 % 256 * 256 + v / 65536 % 256 * 65536 + v / 16777216 % 256 * 16777216 ≡ v
digits v b =
    let small : v / 16777216 < 256 = omega arith in
    rw (mod-eq_of_lt small)
    (summed v (v / 256) (v / 65536) (v / 16777216) _ _ _ (div-add-mod' v 256)
    (rw (← div-div-eq-div-mul v 256 256) (div-add-mod' (v / 256) 256))
    (rw (← div-div-eq-div-mul v 65536 256) (div-add-mod' (v / 65536) 256)))

module _ (w : List ℕ) (i v : ℕ) where
  pub half-put : i + 2 ≤ length w → v < 65536 → half_at (put_half w i v) i ≡ v
  unfolding put_half
  half-put l b =
      let a : List ℕ = set w i (v % 256) in
      let p : get_or (set a (i + 1) (v / 256)) i 0 ≡ v % 256 =
      get_or-set_other a (i + 1) i _ 0 (λ e. omega arith) ∙ get_or-set_same w i _ 0 (omega arith) in
      let q : get_or (set a (i + 1) (v / 256)) (i + 1) 0 ≡ v / 256 =
      get_or-set_same a (i + 1) _ 0 (simp length-set (omega arith)) in
      omega (arith, p, q)

  pub word-put : i + 4 ≤ length w → v < 4294967296 → word_at (put_word w i v) i ≡ v
  unfolding put_word
  word-put l b =
      let a : List ℕ = set w i (v % 256) in
      let d : List ℕ = set a (i + 1) (v / 256 % 256) in
      let e : List ℕ = set d (i + 2) (v / 65536 % 256) in
      let f : List ℕ = set e (i + 3) (v / 16777216 % 256) in
      let p0 : get_or f i 0 ≡ v % 256 =
      get_or-set_other e (i + 3) i _ 0 (λ z. omega arith)
      ∙ (get_or-set_other d (i + 2) i _ 0 (λ z. omega arith)
      ∙ (get_or-set_other a (i + 1) i _ 0 (λ z. omega arith) ∙ get_or-set_same w i _ 0 (omega arith))) in
      let p1 : get_or f (i + 1) 0 ≡ v / 256 % 256 =
      get_or-set_other e (i + 3) (i + 1) _ 0 (λ z. omega arith)
      ∙ (get_or-set_other d (i + 2) (i + 1) _ 0 (λ z. omega arith) ∙ get_or-set_same a (i + 1) _ 0 (simp length-set (omega arith))) in
      let p2 : get_or f (i + 2) 0 ≡ v / 65536 % 256 =
      get_or-set_other e (i + 3) (i + 2) _ 0 (λ z. omega arith) ∙ get_or-set_same d (i + 2) _ 0 (simp length-set (omega arith)) in
      let p3 : get_or f (i + 3) 0 ≡ v / 16777216 % 256 = get_or-set_same e (i + 3) _ 0 (simp length-set (omega arith)) in
      omega (arith, p0, p1, p2, p3, digits v b)

-- OTHER BYTES
module _ (a b : ℕ) (w w' : List ℕ) (k : Kept a b w w') where
  pub half-kept : (i : ℕ) → a ≤ i → i + 2 ≤ b → half_at w' i ≡ half_at w i
  half-kept i l h = omega (arith, k i l (omega arith), k (i + 1) (omega arith) (omega arith))

  pub word_kept : (i : ℕ) → a ≤ i → i + 4 ≤ b → word_at w' i ≡ word_at w i
  word_kept i l h =
      omega (arith, k i l (omega arith), k (i + 1) (omega arith) (omega arith), k (i + 2) (omega arith) (omega arith), k (i + 3) (omega arith) (omega arith))

pub kept_trans : (a b : ℕ) (w w' w'' : List ℕ) → Kept a b w w' → Kept a b w' w'' → Kept a b w w''
kept_trans a b w w' w'' k l i p q = l i p q ∙ k i p q

pub same-trans : {w w' w'' : List ℕ} → SameTables w w' → SameTables w' w'' → SameTables w w''
same-trans {w} {w'} {w''} s t =
    record { size = t.size ∙ s.size; bytes = λ i p q. t.bytes i p q ∙ s.bytes i p q }

pub same_refl : (w : List ℕ) → SameTables w w
same_refl w = record { size = refl; bytes = λ i p q. refl }
