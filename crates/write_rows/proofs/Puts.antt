-- Laws of bytes that were put: they are read back, other bytes stay, and one put after another is one.
use mathlib.Core.Path.{◌≡◌, refl, ap, ◌∙◌}
use mathlib.Core.Bool.{Bool, cond}
use mathlib.Core.List.{List, [], ◌∷◌, ◌++◌}
use mathlib.Core.Logic.{◌⊎◌, inl, inr}
use Prim.Native.Nat.{ℕ, zero, suc, ◌+◌, ◌-◌, ◌*◌, ◌/◌, ◌%◌, ◌≤◌, ◌<◌}
use native.Mathlib.Omega.{arith}
use lib.ListN.{length, get_or, set, length-set}
use lib.Seq.{get_or-set_same, get_or-set_other}
use Rattle.tables.specs.Layout.{most_names}
use Rattle.tables.specs.Decode.{byte_at, half_at, class_place, places_place, field_count_at}
use Rattle.tables.specs.Stores.{put_byte, put_half, put_word, Kept}
use Rattle.tables.proofs.BytesRead.{Outside}
use Rattle.write_rows.specs.Puts.{put_bytes, half_bytes, word_bytes, blank, put_class, put_field_at, put_field}

pub put-length : (w : List ℕ) (i : ℕ) (bs : List ℕ) → length (put_bytes w i bs) ≡ length w
unfolding put_bytes
put-length w i [] = refl
put-length w i (b ∷ bs) = put-length (set w i b) (suc i) bs ∙ length-set w i b

later : (i n j : ℕ) → Outside i (suc n) j → Outside (suc i) n j
later i n j (inl l) = inl (omega arith)
later i n j (inr l) = inr (omega arith)

not-here : (i n j : ℕ) → Outside i (suc n) j → j ≡ i → ⊥
not-here i n j (inl l) e = omega arith
not-here i n j (inr l) e = omega arith

pub put_other : (w : List ℕ) (i : ℕ) (bs : List ℕ) (j : ℕ) → Outside i (length bs) j → byte_at (put_bytes w i bs) j ≡ byte_at w j
unfolding put_bytes
put_other w i [] j o = refl
put_other w i (b ∷ bs) j o =
    put_other (set w i b) (suc i) bs j (later i (length bs) j o) ∙ get_or-set_other w i j b 0 (not-here i (length bs) j o)

-- the byte at i + k
pub put_same :
    (w : List ℕ) (i : ℕ) (bs : List ℕ) (k j : ℕ) → j ≡ i + k → k < length bs → i + length bs ≤ length w →
    byte_at (put_bytes w i bs) j ≡ get_or bs k 0
unfolding put_bytes
put_same w i [] k j e l f = absurd (omega arith)
put_same w i (b ∷ bs) zero j e l f =
    let e' : j ≡ i = omega arith in
    put_other (set w i b) (suc i) bs j (inl (omega arith)) ∙ (rw e' (get_or-set_same w i b 0 (omega arith)))
put_same w i (b ∷ bs) (suc k) j e l f =
    put_same (set w i b) (suc i) bs k j (omega arith) (omega arith) (rw length-set (omega arith))

-- the two bytes at i + k and after it
pub put-same-half :
    (w : List ℕ) (i : ℕ) (bs : List ℕ) (k j v : ℕ) → j ≡ i + k → k + 2 ≤ length bs → i + length bs ≤ length w →
    get_or bs k 0 ≡ v % 256 → get_or bs (k + 1) 0 ≡ v / 256 → half_at (put_bytes w i bs) j ≡ v
put-same-half w i bs k j v e l f lo hi =
    let a : byte_at (put_bytes w i bs) j ≡ get_or bs k 0 = put_same w i bs k j e (omega arith) f in
    let b : byte_at (put_bytes w i bs) (j + 1) ≡ get_or bs (k + 1) 0 = put_same w i bs (k + 1) (j + 1) (omega arith) (omega arith) f in
    omega (arith, a, b, lo, hi)

-- n bytes from i on are none of those from a up to b
abbrev pub Clear : ℕ → ℕ → ℕ → ℕ → Type 0
Clear i n a b = (b ≤ i) ⊎ (i + n ≤ a)

pub put-kept : (w : List ℕ) (i : ℕ) (bs : List ℕ) (a b : ℕ) → Clear i (length bs) a b → Kept a b w (put_bytes w i bs)
put-kept w i bs a b (inl l) j p q = put_other w i bs j (inl (omega arith))
put-kept w i bs a b (inr l) j p q = put_other w i bs j (inr (omega arith))

pub put-append :
    (w : List ℕ) (i : ℕ) (ps bs : List ℕ) (j : ℕ) → j ≡ i + length ps →
    put_bytes (put_bytes w i ps) j bs ≡ put_bytes w i (ps ++ bs)
unfolding put_bytes
put-append w i [] bs j e = ap (λ (k : ℕ). put_bytes w k bs) (let z : j ≡ i = omega arith in z)
put-append w i (a ∷ ps) bs j e = put-append (set w i a) (suc i) ps bs j (omega arith)

-- what `tables` puts
pub byte-bytes : (w : List ℕ) (i v : ℕ) → put_byte w i v ≡ put_bytes w i (v ∷ [])
unfolding put_bytes
byte-bytes w i v = refl

pub half-bytes : (w : List ℕ) (i v : ℕ) → put_half w i v ≡ put_bytes w i (half_bytes v)
unfolding put_half put_bytes
half-bytes w i v = let e : i + 1 ≡ suc i = omega arith in rw e

pub word_size : (w : List ℕ) (i v : ℕ) → put_word w i v ≡ put_bytes w i (word_bytes v)
unfolding put_word put_bytes
word_size w i v =
    let e : i + 1 ≡ suc i = omega arith in
    let f : i + 2 ≡ suc (suc i) = omega arith in
    let g : i + 3 ≡ suc (suc (suc i)) = omega arith in
    rw (e, f, g)

-- BLANKS
pub blank-length : (n : ℕ) → length (blank n) ≡ n
unfolding blank
blank-length zero = refl
blank-length (suc n) = ap suc (blank-length n)

pub blank-get : (n k : ℕ) → k < n → get_or (blank n) k 0 ≡ 255
unfolding blank
blank-get zero k l = absurd (omega arith)
blank-get (suc n) zero l = refl
blank-get (suc n) (suc k) l = blank-get n k (omega arith)

-- after i of n blanks
pub blank-next :
    (w : List ℕ) (at n i : ℕ) → i < n →
    put_bytes (set w (at + i) 255) (at + (i + 1)) (blank (n - (i + 1))) ≡ put_bytes w (at + i) (blank (n - i))
unfolding put_bytes blank
blank-next w at n i l =
    let e : n - i ≡ suc (n - (i + 1)) = omega arith in
    let f : at + (i + 1) ≡ suc (at + i) = omega arith in
    rw (e, f)

pub blank-end : (w : List ℕ) (at n i : ℕ) → n ≤ i → put_bytes w (at + i) (blank (n - i)) ≡ w
unfolding put_bytes blank
blank-end w at n i l = let e : n - i ≡ 0 = omega arith in rw e

-- two puts, one after the other
pub put_then :
    (w : List ℕ) {w' w'' : List ℕ} (i : ℕ) (ps bs : List ℕ) (j : ℕ) → j ≡ i + length ps → w' ≡ put_bytes w i ps →
    w'' ≡ put_bytes w' j bs → w'' ≡ put_bytes w i (ps ++ bs)
put_then w i ps bs j e p q = q ∙ (ap (λ (v : List ℕ). put_bytes v j bs) p ∙ put-append w i ps bs j e)

pub class-stores :
    (w : List ℕ) {w₁ w₂ : List ℕ} (c : ℕ) → w₁ ≡ set w (class_place c) 0 → w₂ ≡ put_bytes w₁ (places_place c) (blank most_names) →
    w₂ ≡ put_class w c
unfolding put_class
class-stores w c e f = f ∙ ap (λ (v : List ℕ). put_bytes v (places_place c) (blank most_names)) (e ∙ byte-bytes w (class_place c) 0)

-- the four stores of a field
pub field-stores :
    (w : List ℕ) {w₁ w₂ w₃ w₄ : List ℕ} (c j name v : ℕ) (int : Bool) → j ≡ field_count_at w c → v ≡ cond int 1 0 →
    w₁ ≡ set w (class_place c) (j + 1) →
    w₂ ≡ set w₁ (class_place c + 1 + j * 2) name →
    w₃ ≡ set w₂ (class_place c + 2 + j * 2) v →
    w₄ ≡ set w₃ (places_place c + name) j → w₄ ≡ put_field w c name int
unfolding put_field_at put_bytes
field-stores w c j name v int y z e f g h =
    let n : class_place c + 2 + j * 2 ≡ suc (class_place c + 1 + j * 2) = omega arith in
    rw (h, g, f, e, z, n, y)
