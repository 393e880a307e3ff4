-- The words of an area, read back from the bytes that they are written as.
use mathlib.Core.Path.{◌≡◌, ap, ◌∙◌}
use mathlib.Core.List.{List, ◌++◌}
use Prim.Native.Nat.{ℕ, ◌+◌, ◌*◌, ◌/◌, ◌<◌}
use native.Mathlib.Omega.{arith}
use native.Mathlib.Nat.{mod-eq_of_lt, div-add-mod', div-div-eq-div-mul}
use lib.ListN.{get_or}
use lib.Seq.{get_or-append-add}
use Rattle.rules.specs.Areas.{word_bytes}
use Rattle.tables.specs.Decode.{word_at}

summed :
    (v a b c r s t : ℕ) → a * 256 + r ≡ v → b * 256 + s ≡ a → c * 256 + t ≡ b →
    r + s * 256 + t * 65536 + c * 16777216 ≡ v
summed v a b c r s t e f g = omega arith

module _ (w : ℕ) (rest : List ℕ) where
  pub word_first : w < 4294967296 → word_at (word_bytes w ++ rest) 0 ≡ w
  unfolding word_bytes
  word_first h =
      let small : w / 16777216 < 256 = omega arith in
      rw (mod-eq_of_lt small)
      (summed w (w / 256) (w / 65536) (w / 16777216) _ _ _ (div-add-mod' w 256)
      (rw (← div-div-eq-div-mul w 256 256) (div-add-mod' (w / 256) 256))
      (rw (← div-div-eq-div-mul w 65536 256) (div-add-mod' (w / 65536) 256)))

  byte-on : (i j : ℕ) → i ≡ 4 + j → get_or (word_bytes w ++ rest) i 0 ≡ get_or rest j 0
  unfolding word_bytes
  byte-on i j e = ap (λ k. get_or (word_bytes w ++ rest) k 0) e ∙ get_or-append-add (word_bytes w) rest j 0

  pub word_on : (i j : ℕ) → i ≡ 4 + j → word_at (word_bytes w ++ rest) i ≡ word_at rest j
  word_on i j e =
      rw (byte-on i j e, byte-on (i + 1) (j + 1) (omega arith), byte-on (i + 2) (j + 2) (omega arith), byte-on (i + 3) (j + 3) (omega arith))
