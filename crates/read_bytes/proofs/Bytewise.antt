-- Laws of words and marks: a formula works on each byte of a word apart, and what it does not mark is not in the set. Words tell their bytes.
use mathlib.Core.Path.{◌≡◌, refl, sym, ap, ap₂, ◌∙◌, subst}
use mathlib.Core.Bool.{Bool, true, false, not, ◌&&◌, ◌||◌}
use mathlib.Core.List.{List, [], ◌∷◌, ◌++◌}
use Prim.Native.Nat.{ℕ, zero, suc, ◌+◌, ◌-◌, ◌*◌, ◌/◌, ◌%◌, ◌^◌, ◌≤◌, ◌<◌}
use native.Mathlib.Nat.{mul-one, add-mul, mul_assoc, mul_right_comm, pow-suc}
use native.Mathlib.Omega.{arith}
use native.Mathlib.Numerals.{add-one}
use native.Mathlib.Decide.{dec_lt}
use lib.Bits.{bit_and, bit_or, bit_xor, and_block, or_block, xor_block, and_lt, or_lt, xor_lt}
use lib.Count.{count_trailing_zeros, under, trailing_le}
use lib.Dec.{eqb, ltb}
use lib.ListN.{length, get_or, drop}
use lib.Pow.{pow-add}
use lib.Seq.{drop-cons, drop-drop}
use borrow.Author.Tests.{ltb-true, not-true, eq-eqb, ne_eqb, eqb-true, eqb-false}
use Rattle.rules.specs.Base as Base
use Rattle.rules.specs.Base.{all, eq_name}
use Rattle.rules.specs.Text as Text
use Rattle.rules.specs.Text.{digit, up_to}
use Rattle.read_bytes.specs.declared.Set.{Set}
use Rattle.read_bytes.specs.declared.Set.TheVariants.{LineEnd, FieldEnd, FullStop, NotLetterOrDigit}
use Rattle.read_bytes.specs.Sets.{in_set, no_digit}
use Rattle.read_bytes.specs.Marks.{Form, it, each, and, or, xor, plus, value, digit_form, form_of, little_endian, eight}
use Rattle.read_bytes.proofs.Search.{both_true, true-false, up_to-within, up_to-jump, up_to-more, all-up_to, rest_end, same_refl, not_same}

-- BYTE BY BYTE

-- x is the byte b below the word w
abbrev Apart : ℕ → ℕ → ℕ → Type 0
Apart x w b = (x ≡ w * 256 + b) × (b < 256)

module _ (op : ℕ → ℕ → ℕ)
    (block : (a b r s : ℕ) → r < 256 → s < 256 → op (a * 256 + r) (b * 256 + s) ≡ op a b * 256 + op r s)
    (bound : (a b : ℕ) → a < 256 → b < 256 → op a b < 256) where
  apart : (x v a y w b : ℕ) → Apart x v a → Apart y w b → Apart (op x y) (op v w) (op a b)
  apart x v a y w b p q = (ap₂ op p.0 q.0 ∙ block v w a b p.1 q.1, bound a b p.1 q.1)

-- no sum of a formula carries, for the byte b
abbrev fits : ℕ → Form → Bool
fits b it = ltb b 256
fits b (each a) = ltb (1 * a) 256
fits b (and f g) = fits b f && fits b g
fits b (or f g) = fits b f && fits b g
fits b (xor f g) = fits b f && fits b g
fits b (plus f g) = ltb (value 1 b f + value 1 b g) 256 && (fits b f && fits b g)

module _ (k w b : ℕ) where
  -- a formula's value for a word is that for its lowest byte, below that for the rest
  value-apart : (f : Form) → fits b f ≡ true → Apart (value (k * 256 + 1) (w * 256 + b) f) (value k w f) (value 1 b f)
  value-apart it h = (refl, ltb-true b 256 h)
  value-apart (each a) h = (add-mul (k * 256) 1 a ∙ ap (λ n. n + 1 * a) (mul_right_comm k 256 a), ltb-true (1 * a) 256 h)
  value-apart (and f g) h =
      let r = both_true (fits b f) (fits b g) h in
      apart bit_and (and_block 8) (and_lt 8) _ _ _ _ _ _ (value-apart f r.0) (value-apart g r.1)
  value-apart (or f g) h =
      let r = both_true (fits b f) (fits b g) h in
      apart bit_or (or_block 8) (or_lt 8) _ _ _ _ _ _ (value-apart f r.0) (value-apart g r.1)
  value-apart (xor f g) h =
      let r = both_true (fits b f) (fits b g) h in
      apart bit_xor (xor_block 8) (xor_lt 8) _ _ _ _ _ _ (value-apart f r.0) (value-apart g r.1)
  value-apart (plus f g) h =
      let r = both_true (ltb (value 1 b f + value 1 b g) 256) (fits b f && fits b g) h in
      let q = both_true (fits b f) (fits b g) r.1 in
      (omega (arith, (value-apart f q.0).0, (value-apart g q.1).0), ltb-true (value 1 b f + value 1 b g) 256 r.0)

-- ALL BYTES, BY COMPUTING

-- the test passes for each number below n
abbrev all_below : (ℕ → Bool) → ℕ → Bool
all_below p zero = true
all_below p (suc n) = p n && all_below p n

below_all : (p : ℕ → Bool) (n b : ℕ) → all_below p n ≡ true → b < n → p b ≡ true
below_all p zero b e h = absurd (omega arith)
below_all p (suc n) b e h =
    let q = both_true (p n) (all_below p n) e in
    elim (dec_lt b n) [ yes l ↦ below_all p n b q.1 l | no l ↦ subst (λ m. p m ≡ true) (let z : n ≡ b = omega arith in z) q.0 ]

-- its sums do not carry, and the byte is marked or does not pass the test
abbrev sound : Form → (ℕ → Bool) → ℕ → Bool
sound f p b = fits b f && (not (eqb (value 1 b f) 0) || not (p b))

sound-digit : all_below (sound digit_form no_digit) 256 ≡ true
unfolding Base.opened Text.opened
sound-digit = refl

sound-all : (s : Set) → all_below (sound (form_of s) (in_set s)) 256 ≡ true
unfolding Base.opened Text.opened
sound-all LineEnd = refl
sound-all FieldEnd = refl
sound-all FullStop = refl
sound-all NotLetterOrDigit = refl

or-not : (p q : Bool) → p ≡ true → (not p || not q) ≡ true → q ≡ false
or-not true q d e = not-true q e
or-not false q d e = true-false (sym d)

-- MARKS OF A WORD

-- the j low bytes of z are 0
abbrev pub Zeros : ℕ → ℕ → Type 0
Zeros zero z = Unit {0}
Zeros (suc j) z = (q : ℕ) × (z ≡ q * 256) × Zeros j q

-- each is below 256
abbrev Bytes : List ℕ → Type 0
Bytes [] = Unit {0}
Bytes (b ∷ t) = (b < 256) × Bytes t

-- the word of n bytes that are 1
abbrev ones : ℕ → ℕ
ones zero = 0
ones (suc n) = ones n * 256 + 1

-- a formula that marks each byte that passes a test
module _ (f : Form) (p : ℕ → Bool) (s : all_below (sound f p) 256 ≡ true) where
  sound-at : (b : ℕ) → b < 256 → (fits b f ≡ true) × ((not (eqb (value 1 b f) 0) || not (p b)) ≡ true)
  sound-at b h = both_true _ _ (below_all (sound f p) 256 b s h)

  unmarked : (b : ℕ) → b < 256 → value 1 b f ≡ 0 → p b ≡ false
  unmarked b h z = or-not (eqb (value 1 b f) 0) (p b) (eq-eqb (value 1 b f) 0 z) (sound-at b h).1

  -- the marks of a word are those of its first byte, below those of the rest
  word-apart :
      (b : ℕ) (t : List ℕ) → b < 256 →
      Apart (value (ones (length (b ∷ t))) (little_endian (b ∷ t)) f) (value (ones (length t)) (little_endian t) f) (value 1 b f)
  unfolding little_endian
  word-apart b t h = value-apart (ones (length t)) (little_endian t) b f (sound-at b h).0

  -- bytes whose marks are 0 do not pass the test
  clear : (l : List ℕ) (j : ℕ) → Bytes l → j ≤ length l → Zeros j (value (ones (length l)) (little_endian l) f) → j ≤ up_to p l
  unfolding little_endian up_to
  clear l zero h k z = omega arith
  clear [] (suc j) h k z = absurd (omega arith)
  clear (b ∷ t) (suc j) h k z =
      let a = word-apart b t h.0 in
      let q : z.0 ≡ value (ones (length t)) (little_endian t) f = omega (arith, a.0, a.1, z.1) in
      let m : value 1 b f ≡ 0 = omega (arith, a.0, a.1, z.1) in
      let r = clear t j h.1 (omega arith) (subst (Zeros j) q z.2) in
      rw (unmarked b h.0 m) (omega arith)

-- MARKS OF LETTERS AND DIGITS are exact: a byte that is marked is none

abbrev name-marks : Form
name-marks = form_of NotLetterOrDigit

abbrev exact : ℕ → Bool
exact b = eqb (value 1 b name-marks) 0 || in_set NotLetterOrDigit b

exact-all : all_below exact 256 ≡ true
unfolding Base.opened Text.opened
exact-all = refl

marked : (b : ℕ) → b < 256 → (value 1 b name-marks ≡ 0 → ⊥) → in_set NotLetterOrDigit b ≡ true
marked b h n = rw (ne_eqb (value 1 b name-marks) 0 n) at (below_all exact 256 b exact-all h)

name-apart :
    (b : ℕ) (t : List ℕ) → b < 256 →
    Apart (value (ones (length (b ∷ t))) (little_endian (b ∷ t)) name-marks) (value (ones (length t)) (little_endian t) name-marks) (value 1 b name-marks)
name-apart = word-apart name-marks (in_set NotLetterOrDigit) (sound-all NotLetterOrDigit)

-- the search ends at the first mark
first-mark :
    (l t : List ℕ) (j : ℕ) → Bytes l → j < length l →
    (let z = value (ones (length l)) (little_endian l) name-marks in Zeros j z → (Zeros (suc j) z → ⊥) → up_to (in_set NotLetterOrDigit) (l ++ t) ≡ j)
unfolding little_endian up_to
first-mark [] t j h k z n = absurd (omega arith)
first-mark (b ∷ l) t zero h k z n =
    let a = name-apart b l h.0 in
    rw (marked b h.0 (λ m. n (value (ones (length l)) (little_endian l) name-marks, omega (arith, a.0, m), tt)))
first-mark (b ∷ l) t (suc j) h k z n =
    let a = name-apart b l h.0 in
    let q : z.0 ≡ value (ones (length l)) (little_endian l) name-marks = omega (arith, a.0, a.1, z.1) in
    let m : value 1 b name-marks ≡ 0 = omega (arith, a.0, a.1, z.1) in
    let r = first-mark l t j h.1 (omega arith) (subst (Zeros j) q z.2) (λ y. n (value (ones (length l)) (little_endian l) name-marks, omega (arith, a.0, m), y)) in
    rw (unmarked name-marks (in_set NotLetterOrDigit) (sound-all NotLetterOrDigit) b h.0 m) (ap suc r)

-- ZEROS OF A NUMBER

twice : (n : ℕ) → n % 2 ≡ 0 → n ≡ n / 2 * 2
twice n e = omega arith

-- the zeros at a number's end can be divided out
trailing : (d n : ℕ) → (q : ℕ) × (n ≡ q * 2 ^ count_trailing_zeros d n)
unfolding count_trailing_zeros
trailing zero n = (n, sym (mul-one n))
trailing (suc d) n = go (n % 2) refl (trailing d (n / 2))
  where
    go : (r : ℕ) → n % 2 ≡ r → (q : ℕ) × (n / 2 ≡ q * 2 ^ count_trailing_zeros d (n / 2)) →
        (q : ℕ) × (n ≡ q * 2 ^ under r (count_trailing_zeros d (n / 2)))
    go zero e p =
        let t = count_trailing_zeros d (n / 2) in
        (p.0, twice n e ∙ (ap (λ m. m * 2) p.1 ∙ (mul_assoc p.0 (2 ^ t) 2 ∙ ap (λ m. p.0 * m) (sym (pow-suc 2 t)))))
    go (suc r) e p = (n, sym (mul-one n))

zeros-of : (j t q z : ℕ) → j * 8 ≤ t → z ≡ q * 2 ^ t → Zeros j z
zeros-of zero t q z h e = tt
zeros-of (suc j) t q z h e = (q * 2 ^ (t - 8), over (t - 8) (omega arith), zeros-of j (t - 8) q (q * 2 ^ (t - 8)) (omega arith) refl)
  where
    over : (u : ℕ) → t ≡ u + 8 → z ≡ q * 2 ^ u * 256
    over u d = e ∙ (ap (λ m. q * 2 ^ m) d ∙ (ap (λ m. q * m) (pow-add 2 u 8) ∙ sym (mul_assoc q (2 ^ u) 256)))

pub trailing_zeros : (z : ℕ) → Zeros (count_trailing_zeros 64 z / 8) z
trailing_zeros z = let p = trailing 64 z in zeros-of (count_trailing_zeros 64 z / 8) (count_trailing_zeros 64 z) p.0 z (omega arith) p.1

-- they are a power of 2 that can be divided out
zeros-power : (j z : ℕ) → Zeros j z → (q : ℕ) × (z ≡ q * 2 ^ (j * 8))
zeros-power zero z h = (z, sym (mul-one z))
zeros-power (suc j) z h =
    let r = zeros-power j h.0 h.2 in
    let d : suc j * 8 ≡ j * 8 + 8 = omega arith in
    (r.0, h.1 ∙ (ap (λ m. m * 256) r.1 ∙ (mul_assoc r.0 (2 ^ (j * 8)) 256 ∙ ap (λ m. r.0 * m) (sym (ap (λ m. 2 ^ m) d ∙ pow-add 2 (j * 8) 8)))))

-- no more can be divided out of a number of d digits that is not 0
most-zeros : (d m q n : ℕ) → n ≡ q * 2 ^ m → (n ≡ 0 → ⊥) → n < 2 ^ d → m ≤ count_trailing_zeros d n
unfolding count_trailing_zeros
most-zeros d zero q n e p h = omega arith
most-zeros zero (suc m) q n e p h = absurd (p (omega arith))
most-zeros (suc d) (suc m) q n e p h = go (q * 2 ^ m) (2 ^ d) (e ∙ (ap (λ k. q * k) (pow-suc 2 m) ∙ sym (mul_assoc q (2 ^ m) 2))) (rw pow-suc at h) (most-zeros d m q (n / 2))
  where
    go : (x y : ℕ) → n ≡ x * 2 → n < y * 2 → (n / 2 ≡ x → (n / 2 ≡ 0 → ⊥) → n / 2 < y → m ≤ count_trailing_zeros d (n / 2)) →
        suc m ≤ under (n % 2) (count_trailing_zeros d (n / 2))
    go x y f g r =
        let z : n % 2 ≡ 0 = omega arith in
        let k = r (omega arith) (λ u. p (omega arith)) (omega arith) in
        rw z (omega arith)

-- a word that is not 0 has a byte that is not 0 after its zeros
module _ (z : ℕ) (p : z ≡ 0 → ⊥) (h : z < 18446744073709551616) where
  no-more-zeros : Zeros (suc (count_trailing_zeros 64 z / 8)) z → ⊥
  no-more-zeros y =
      let t = count_trailing_zeros 64 z in
      let r = zeros-power (suc (t / 8)) z y in
      let m = most-zeros 64 (suc (t / 8) * 8) r.0 z r.1 p h in
      omega arith

  few-zeros : count_trailing_zeros 64 z < 64
  few-zeros =
      let t = count_trailing_zeros 64 z in
      let r = trailing 64 z in
      elim (dec_lt t 64) [
        | yes l ↦ l
        | no l ↦ absurd (let e : t ≡ 64 = omega (arith, trailing_le 64 z) in let f : z ≡ r.0 * 18446744073709551616 = r.1 ∙ ap (λ m. r.0 * 2 ^ m) e in p (omega arith))
      ]

zero-zeros : (j : ℕ) → Zeros j 0
zero-zeros zero = tt
zero-zeros (suc j) = (0, refl, zero-zeros j)

pub no-marks : (j z : ℕ) → z ≡ 0 → Zeros j z
no-marks j z e = subst (Zeros j) (sym e) (zero-zeros j)

-- EIGHT BYTES OF A LIST

-- they are bytes
eight-bytes : (l : List ℕ) (i : ℕ) → ((k : ℕ) → get_or l k 0 < 256) → Bytes (eight l i)
eight-bytes l i b = (b i, (b (i + 1), (b (i + 2), (b (i + 3), (b (i + 4), (b (i + 5), (b (i + 6), (b (i + 7), tt))))))))

module _ (l : List ℕ) (i : ℕ) (h : i + 8 ≤ length l) where
  next : (j k : ℕ) → k ≡ j + 1 → j < i + 8 → drop j l ≡ get_or l j 0 ∷ drop k l
  next j k e g = drop-cons l j 0 (omega arith) ∙ ap (λ n. get_or l j 0 ∷ drop n l) (sym (e ∙ add-one j))

  more : (j k : ℕ) (t : List ℕ) → k ≡ j + 1 → j < i + 8 → drop k l ≡ t → drop j l ≡ get_or l j 0 ∷ t
  more j k t e g q = next j k e g ∙ ap (λ n. get_or l j 0 ∷ n) q

  -- they come before the rest
  pub eight_is : drop i l ≡ eight l i ++ drop (i + 8) l
  eight_is =
      more i (i + 1) _ (omega arith) (omega arith)
      (more (i + 1) (i + 2) _ (omega arith) (omega arith)
      (more (i + 2) (i + 3) _ (omega arith) (omega arith)
      (more (i + 3) (i + 4) _ (omega arith) (omega arith)
      (more (i + 4) (i + 5) _ (omega arith) (omega arith)
      (more (i + 5) (i + 6) _ (omega arith) (omega arith)
      (more (i + 6) (i + 7) _ (omega arith) (omega arith)
      (more (i + 7) (i + 8) _ (omega arith) (omega arith) refl)))))))

  -- if none has a mark, all are digits
  pub eight-clear : ((k : ℕ) → get_or l k 0 < 256) → (x z : ℕ) → x ≡ little_endian (eight l i) → z ≡ value 0x0101010101010101 x digit_form → z ≡ 0 → all digit (eight l i) ≡ true
  eight-clear b x z w e n =
      let q : value (ones 8) (little_endian (eight l i)) digit_form ≡ 0 = ap (λ m. value 0x0101010101010101 m digit_form) (sym w) ∙ (sym e ∙ n) in
      let c = clear digit_form no_digit sound-digit (eight l i) 8 (eight-bytes l i b) (omega arith) (no-marks 8 _ q) in
      all-up_to digit (eight l i) ∙ eq-eqb (up_to no_digit (eight l i)) 8 (omega (arith, c, up_to-within no_digit (eight l i)))

  -- the bytes below the first mark are not in the set
  pub skipped : ((k : ℕ) → get_or l k 0 < 256) → (s : Set) (j x z : ℕ) → x ≡ little_endian (eight l i) → z ≡ value 0x0101010101010101 x (form_of s) → j ≤ 8 → Zeros j z →
      i + j + up_to (in_set s) (drop (i + j) l) ≡ i + up_to (in_set s) (drop i l)
  skipped b s j x z w e g m =
      let q : z ≡ value (ones 8) (little_endian (eight l i)) (form_of s) = e ∙ ap (λ n. value 0x0101010101010101 n (form_of s)) w in
      let c = clear (form_of s) (in_set s) (sound-all s) (eight l i) j (eight-bytes l i b) (omega arith) (subst (Zeros j) q m) in
      let u = up_to-more (in_set s) (eight l i) (drop (i + 8) l) in
      let v : up_to (in_set s) (drop i l) ≡ up_to (in_set s) (eight l i ++ drop (i + 8) l) = ap (up_to (in_set s)) eight_is in
      let n = up_to-jump (in_set s) (drop i l) j (omega (arith, c, u, v)) in
      omega (arith, n, ap (up_to (in_set s)) (drop-drop j i l))

  -- the search from i on ends at the first mark
  pub stopped : ((k : ℕ) → get_or l k 0 < 256) → (x z : ℕ) → x ≡ little_endian (eight l i) → z ≡ value 0x0101010101010101 x (form_of NotLetterOrDigit) →
      (z ≡ 0 → ⊥) → z < 18446744073709551616 → up_to (in_set NotLetterOrDigit) (drop i l) ≡ count_trailing_zeros 64 z / 8
  stopped b x z w e p f =
      let q : z ≡ value (ones 8) (little_endian (eight l i)) (form_of NotLetterOrDigit) = e ∙ ap (λ n. value 0x0101010101010101 n (form_of NotLetterOrDigit)) w in
      let j = count_trailing_zeros 64 z / 8 in
      ap (up_to (in_set NotLetterOrDigit)) eight_is
      ∙ first-mark (eight l i) (drop (i + 8) l) j (eight-bytes l i b) (omega (arith, few-zeros z p f))
      (subst (Zeros j) q (trailing_zeros z)) (λ y. no-more-zeros z p f (subst (Zeros (suc j)) (sym q) y))

-- WORDS OF TWO LISTS

-- equal words have equal bytes
word_size : (s t : List ℕ) → length s ≡ length t → Bytes s → Bytes t → little_endian s ≡ little_endian t → s ≡ t
unfolding little_endian
word_size [] [] n p q e = refl
word_size [] (c ∷ t) n p q e = absurd (omega arith)
word_size (b ∷ s) [] n p q e = absurd (omega arith)
word_size (b ∷ s) (c ∷ t) n p q e =
    let h = p.0 in
    let k = q.0 in
    ap₂ ◌∷◌ (let z : b ≡ c = omega arith in z) (word_size s t (omega arith) p.1 q.1 (omega arith))

module _ (a b : List ℕ) (p : (k : ℕ) → get_or a k 0 < 256) (q : (k : ℕ) → get_or b k 0 < 256) (n : length a ≡ length b) where
  -- the same eight bytes before the same rest
  same-eight :
      (i : ℕ) → i + 8 ≤ length a → little_endian (eight a i) ≡ little_endian (eight b i) → drop (i + 8) a ≡ drop (i + 8) b → drop i a ≡ drop i b
  same-eight i h e r =
      let w = word_size (eight a i) (eight b i) refl (eight-bytes a i p) (eight-bytes b i q) e in
      eight_is a i h ∙ (ap₂ ◌++◌ w r ∙ sym (eight_is b i (omega arith)))

  -- the last eight bytes and the first eight are all the bytes of a name of 8 to 16
  pub two-words :
      8 ≤ length a → length a ≤ 16 → (let i = length a - 8 in little_endian (eight a i) ≡ little_endian (eight b i)) →
      eqb (little_endian (eight a 0)) (little_endian (eight b 0)) ≡ eq_name a b
  two-words l m e = go (eqb (little_endian (eight a 0)) (little_endian (eight b 0))) refl
    where
      i : ℕ
      i = length a - 8

      last : drop i a ≡ drop i b
      last = same-eight i (omega arith) e (rest_end a b (i + 8) (omega arith) (omega arith))

      beyond : drop 8 a ≡ drop 8 b
      beyond =
          let z : i + (8 - i) ≡ 8 = omega arith in
          ap (λ k. drop k a) (sym z) ∙ (sym (drop-drop (8 - i) i a) ∙ (ap (drop (8 - i)) last ∙ (drop-drop (8 - i) i b ∙ ap (λ k. drop k b) z)))

      go : (x : Bool) → eqb (little_endian (eight a 0)) (little_endian (eight b 0)) ≡ x → x ≡ eq_name a b
      go true d =
          let f : a ≡ b = same-eight 0 l (eqb-true _ _ d) beyond in
          sym (ap (eq_name a) (sym f) ∙ same_refl a)
      go false d = sym (not_same a b (λ f. eqb-false _ _ d (ap (λ s. little_endian (eight s 0)) f)))
