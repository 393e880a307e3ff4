-- Laws of digits and numbers.
use mathlib.Core.Path.{◌≡◌, refl, sym, ap, ◌∙◌}
use mathlib.Core.Bool.{Bool, true, false, not, cond, ◌&&◌, ◌||◌}
use mathlib.Core.List.{[], ◌∷◌, ◌++◌}
use Prim.Native.Nat.{ℕ, zero, suc, ◌+◌, ◌*◌, ◌-◌, ◌%◌, ◌≤◌, ◌<◌}
use native.Mathlib.Omega.{arith}
use native.Mathlib.Numerals.{add-one}
use native.Mathlib.Decide.{dec_lt}
use lib.Dec.{eqb, leb}
use lib.ListN.{length, get_or, take, drop, drop_of_length-le, length-take, get_or-eq_default}
use lib.Seq.{drop-cons, take-suc, get_or-take, get_or-drop, length-take-le}
use borrow.Author.Tests.{le-leb, lt-leb, eqb-true, eqb-false, eq-eqb, ne_eqb, not-true, not-false}
use Rattle.rules.specs.Base.{Name, all, between}
use Rattle.rules.specs.Text.{digit, up_to, is_digits, minuses, factor, unsigned, is_number, number, decimal}
use Rattle.read_bytes.specs.Sets.{no_digit}
use Rattle.read_bytes.specs.Marks.{eight}
use Rattle.read_numbers.specs.Numbers.{digits_in, Begun, TenDigits, led, in_range}
use Rattle.read_bytes.proofs.Search.{or-true, and-false, both_true, and_both, and-true, between-true, up_to-within, up_to-passed, up_to-next, up_to-ends, up_to-more, all-up_to, all_of, all-at, all-front, rest_part}
use Rattle.read_bytes.proofs.Bytewise.{eight_is}

-- DIGITS

pub decimal-on : (n : ℕ) (w : Name) (i : ℕ) → i < length w → decimal n (drop i w) ≡ decimal (n * 10 + (get_or w i 0 - 48)) (drop (i + 1) w)
unfolding decimal
decimal-on n w i h = rw (add-one, drop-cons w i 0 h)

pub decimal-end : (n : ℕ) (w : Name) (i : ℕ) → length w ≤ i → decimal n (drop i w) ≡ n
unfolding decimal
decimal-end n w i h = rw (drop_of_length-le w {i = i} h)

pub decimal-grows : (w : Name) (n : ℕ) → n ≤ decimal n w
unfolding decimal
decimal-grows [] n = omega arith
decimal-grows (b ∷ t) n = let h = decimal-grows t (n * 10 + (b - 48)) in omega (arith, h)

pub digit-is : (b : ℕ) → digit b ≡ true → (48 ≤ b) × (b ≤ 57)
unfolding digit
digit-is b e = between-true 48 57 b e

-- EIGHT DIGITS

pub decimal-append : (a b : Name) (n : ℕ) → decimal n (a ++ b) ≡ decimal (decimal n a) b
unfolding decimal
decimal-append [] b n = refl
decimal-append (x ∷ a) b n = decimal-append a b (n * 10 + (x - 48))

pub decimal-eight : (n : ℕ) (l : Name) (i : ℕ) → i + 8 ≤ length l → decimal n (drop i l) ≡ decimal (decimal n (eight l i)) (drop (i + 8) l)
decimal-eight n l i h = ap (decimal n) (eight_is l i h) ∙ decimal-append (eight l i) (drop (i + 8) l) n

pub digits-eight : (l : Name) (i : ℕ) → i + 8 ≤ length l → all digit (drop i l) ≡ true → all digit (eight l i) ≡ true
digits-eight l i h e = all-front digit (eight l i) (drop (i + 8) l) (ap (all digit) (sym (eight_is l i h)) ∙ e)

-- the sum of eight bytes, each times its power of ten
abbrev pub byte_sum : ℕ → ℕ → ℕ → ℕ → ℕ → ℕ → ℕ → ℕ → ℕ
byte_sum a b c d e f g h = (a * 1000 + b * 100 + c * 10 + d) * 10000 + (e * 1000 + f * 100 + g * 10 + h)

-- x, y, .. are what the digits a, b, .. stand for
sum_less :
    (a b c d e f g h x y z u v w s t : ℕ) →
    a ≡ x + 48 → b ≡ y + 48 → c ≡ z + 48 → d ≡ u + 48 → e ≡ v + 48 → f ≡ w + 48 → g ≡ s + 48 → h ≡ t + 48 →
    (533333328 ≤ byte_sum a b c d e f g h)
    × (byte_sum a b c d e f g h - 533333328 ≡ (((((((0 * 10 + x) * 10 + y) * 10 + z) * 10 + u) * 10 + v) * 10 + w) * 10 + s) * 10 + t)
sum_less a b c d e f g h x y z u v w s t i j k l m n o p = (omega arith, omega arith)

-- with 48 for each digit taken off it is what they write
pub eight-sum :
    (a b c d e f g h : ℕ) → all digit (a ∷ b ∷ c ∷ d ∷ e ∷ f ∷ g ∷ h ∷ []) ≡ true →
    (533333328 ≤ byte_sum a b c d e f g h) × (byte_sum a b c d e f g h - 533333328 ≡ decimal 0 (a ∷ b ∷ c ∷ d ∷ e ∷ f ∷ g ∷ h ∷ []))
unfolding decimal
eight-sum a b c d e f g h q = sum_less a b c d e f g h _ _ _ _ _ _ _ _ (less 0 (omega arith)) (less 1 (omega arith)) (less 2 (omega arith)) (less 3 (omega arith)) (less 4 (omega arith)) (less 5 (omega arith)) (less 6 (omega arith)) (less 7 (omega arith))
  where
    l : Name
    l = a ∷ b ∷ c ∷ d ∷ e ∷ f ∷ g ∷ h ∷ []

    less : (k : ℕ) → k < 8 → get_or l k 0 ≡ get_or l k 0 - 48 + 48
    less k m = let r = digit-is (get_or l k 0) (all-at digit l k q m) in omega arith

-- TEN DIGITS

-- at most what k nines write after a number that is no smaller
most : ℕ → ℕ → ℕ
most n zero = n
most n (suc k) = most (n * 10 + 9) k

most-grows : (k n : ℕ) → n ≤ most n k
unfolding most
most-grows zero n = omega arith
most-grows (suc k) n = let h = most-grows k (n * 10 + 9) in omega arith

decimal-most : (w : Name) (k m n : ℕ) → length w ≤ k → m ≤ n → all digit w ≡ true → decimal m w ≤ most n k
unfolding decimal most all
decimal-most [] k m n h l e = let g = most-grows k n in omega arith
decimal-most (b ∷ w) zero m n h l e = absurd (omega arith)
decimal-most (b ∷ w) (suc k) m n h l e =
    let q = both_true (digit b) (all digit w) e in
    let d = digit-is b q.0 in
    decimal-most w k (m * 10 + (b - 48)) (n * 10 + 9) (omega arith) (omega arith) q.1

-- at least what k zeros write after a number that is no larger
least : ℕ → ℕ → ℕ
least n zero = n
least n (suc k) = least (n * 10) k

decimal-least : (w : Name) (k m n : ℕ) → k ≤ length w → n ≤ m → least n k ≤ decimal m w
unfolding decimal least
decimal-least w zero m n h l = let g = decimal-grows w m in omega arith
decimal-least [] (suc k) m n h l = absurd (omega arith)
decimal-least (b ∷ w) (suc k) m n h l = decimal-least w k (m * 10 + (b - 48)) (n * 10) (omega arith) (omega arith)

pub digits-form : (w : Name) → is_digits w ≡ (led (length w) (get_or w 0 0) && all digit w)
unfolding is_digits led
digits-form w = and_both (leb 1 (length w)) (eqb (length w) 1 || not (eqb (get_or w 0 0) 48)) (all digit w)

led-first : (n b : ℕ) → 1 < n → led n b ≡ true → b ≡ 48 → ⊥
unfolding led
led-first n b h e = eqb-false b 48 (not-true (eqb b 48) (let z : not (eqb b 48) ≡ true = rw (le-leb 1 n (omega arith), ne_eqb n 1 (λ z. omega arith)) at e in z))

-- more than ten write more than a number can be
large-digits : (b : ℕ) (w : Name) → 10 ≤ length w → is_digits (b ∷ w) ≡ true → 10000000000 ≤ decimal 0 (b ∷ w)
unfolding decimal least
large-digits b w h e =
    let r = both_true (led (length (b ∷ w)) b) (all digit (b ∷ w)) (sym (digits-form (b ∷ w)) ∙ e) in
    let d = digit-is b (all-at digit (b ∷ w) 0 r.1 (omega arith)) in
    let n = led-first (length (b ∷ w)) b (omega arith) r.0 in
    let z : 1 ≤ b - 48 = elim (dec_lt 48 b) [ yes l ↦ omega arith | no l ↦ absurd (n (omega arith)) ] in
    decimal-least w 10 (0 * 10 + (b - 48)) 1 h (omega arith)

-- how many signs a byte is
pub minuses-few : (b : ℕ) → minuses b ≤ 1
unfolding minuses
minuses-few b = go (eqb b 45)
  where
    go : (q : Bool) → cond q 1 0 ≤ 1
    go true = omega arith
    go false = omega arith

-- m of them
out_of_range : (m n : ℕ) → m ≤ 1 → 10000000000 ≤ n → in_range m n ≡ false
unfolding in_range between
out_of_range m n h l = rw (lt-leb n (2147483647 + m) (omega arith)) (and-false (leb m n))

pub more-digits : (w : Name) (m : ℕ) → m ≤ 1 → 10 < length w → (is_digits w && in_range m (decimal 0 w)) ≡ false
more-digits [] m i h = absurd (omega arith)
more-digits (b ∷ w) m i h = go (is_digits (b ∷ w)) refl
  where
    go : (p : Bool) → is_digits (b ∷ w) ≡ p → (p && in_range m (decimal 0 (b ∷ w))) ≡ false
    go true e = out_of_range m (decimal 0 (b ∷ w)) i (large-digits b w (omega arith) e)
    go false e = refl

led-same : (t : Name) (n : ℕ) → led n (get_or (take n t) 0 0) ≡ led n (get_or t 0 0)
unfolding led
led-same t zero = refl
led-same t (suc n) = rw (get_or-take (suc n) t 0 0 (omega arith))

module _ (t : Name) (k : ℕ) (h : k ≤ digits_in t) where
  few : k ≤ length t
  unfolding digits_in
  few = omega (arith, up_to-within no_digit (take 10 t), length-take 10 t)

  pub begin-digits : all digit (take k t) ≡ true
  unfolding digits_in
  begin-digits = all_of digit (take k t) (λ i l. let g : i < k = omega (arith, length-take-le k t few) in rw (get_or-take k t i 0 g) (rw (get_or-take 10 t i 0 (omega (arith, up_to-within no_digit (take 10 t), length-take 10 t))) at (not-false (digit (get_or (take 10 t) i 0)) (up_to-passed no_digit (take 10 t) i (omega arith)))))

  pub begin-led : is_digits (take k t) ≡ led k (get_or t 0 0)
  begin-led = digits-form (take k t) ∙ rw (begin-digits, length-take-le k t few) (and-true (led k (get_or (take k t) 0 0)) ∙ led-same t k)

-- digits from a place on, read one by one
pub begun-none : (l : Name) (at : ℕ) → Begun l at 0 at
unfolding decimal
begun-none l at = let z : at - at ≡ 0 = omega arith in record { low = omega arith; high = omega arith; is = rw z }

pub begun-eight : (l : Name) (at value : ℕ) → at + 8 ≤ length l → all digit (eight l at) ≡ true → value ≡ decimal 0 (eight l at) → Begun l at value (at + 8)
unfolding digits_in
begun-eight l at value h d e =
    let t = eight_is l at h in
    let n : up_to no_digit (eight l at) ≡ 8 = eqb-true _ 8 (sym (all-up_to digit (eight l at)) ∙ d) in
    let m = up_to-more no_digit (eight l at) (take 2 (drop (at + 8) l)) in
    let z : at + 8 - at ≡ 8 = omega arith in
    record { low = omega arith; high = omega (arith, n, m, ap (λ s. up_to no_digit (take 10 s)) t); is = rw z (e ∙ ap (decimal 0) (sym (ap (take 8) t))) }

module _ (l : Name) (at value end : ℕ) (g : Begun l at value end) where
  abbrev t : Name
  t = drop at l

  abbrev k : ℕ
  k = end - at

  there : end < at + length (take 10 t) → get_or (take 10 t) k 0 ≡ get_or l end 0
  there h = get_or-take 10 t k 0 (omega (arith, length-take 10 t, g.low)) ∙ (get_or-drop at l k 0 ∙ ap (λ n. get_or l n 0) (let z : at + k ≡ end = omega (arith, g.low) in z))

  pub begun-small : end < at + length (take 10 t) → value ≤ 999999999
  unfolding most
  begun-small h =
      let m = decimal-most (take k t) 9 0 0 (omega (arith, length-take k t, length-take 10 t, g.low)) (omega arith) (begin-digits t k (omega (arith, g.low, g.high))) in
      omega (arith, g.is, m)

  pub begun-on : end < at + length (take 10 t) → digit (get_or l end 0) ≡ true → Begun l at (value * 10 + (get_or l end 0 - 48)) (end + 1)
  unfolding digits_in decimal
  begun-on h d =
      let n : k < up_to no_digit (take 10 t) = up_to-next no_digit (take 10 t) k (omega (arith, g.low, g.high)) (omega (arith, g.low)) (rw (there h, d)) in
      let m : k < length t = omega (arith, g.low, length-take 10 t) in
      let z : end + 1 - at ≡ suc k = omega (arith, g.low) in
      let b : get_or t k 0 ≡ get_or l end 0 = sym (get_or-take 10 t k 0 (omega (arith, length-take 10 t, g.low))) ∙ there h in
      record { low = omega (arith, g.low); high = omega (arith, n, g.low); is = rw (z, take-suc t k 0 m, decimal-append (take k t) (get_or t k 0 ∷ []) 0, ← g.is, b) }

  pub begun-ends : (end < at + length (take 10 t) → digit (get_or l end 0) ≡ false) → TenDigits l at value end
  unfolding digits_in
  begun-ends d =
      let z : digits_in t ≡ k = up_to-ends no_digit (take 10 t) k (omega (arith, g.low, g.high)) (λ h. let m : end < at + length (take 10 t) = omega (arith, g.low) in rw (there m, d m)) in
      record { end_is = omega (arith, z, g.low); value_is = rw z g.is }

-- the tests of a number, one by one
pub no-led : (n b : ℕ) → n ≡ 0 → led n b ≡ false
unfolding led
no-led n b e = rw e

pub led-well : (n b : ℕ) → 1 ≤ n → (b ≡ 48 → ⊥) → led n b ≡ true
unfolding led
led-well n b h e = rw (le-leb 1 n h, ne_eqb b 48 e) (or-true (eqb n 1))

pub led-zero : (n b : ℕ) → 1 ≤ n → b ≡ 48 → led n b ≡ eqb n 1
unfolding led
led-zero n b h e = rw (le-leb 1 n h, e) (or-none (eqb n 1))
  where
    or-none : (q : Bool) → (q || false) ≡ q
    or-none true = refl
    or-none false = refl

pub below-range : (m n : ℕ) → n < m → in_range m n ≡ false
unfolding in_range between
below-range m n h = rw (lt-leb m n h)

pub range-from : (m n : ℕ) → m ≤ n → leb n (2147483647 + m) ≡ in_range m n
unfolding in_range between
range-from m n h = rw (le-leb m n h)

pub less-is : (from end : ℕ) → eqb end (from + 1) ≡ eqb (end - from) 1
less-is from end = go (eqb end (from + 1)) refl
  where
    go : (q : Bool) → eqb end (from + 1) ≡ q → q ≡ eqb (end - from) 1
    go true e = sym (eq-eqb (end - from) 1 (omega (arith, eqb-true end (from + 1) e)))
    go false e = sym (ne_eqb (end - from) 1 (λ z. eqb-false end (from + 1) e (omega arith)))

-- NUMBERS

-- of a number: its digits, and what they write
digits-all : (w : Name) → is_digits w ≡ true → all digit w ≡ true
digits-all w e = (both_true (led (length w) (get_or w 0 0)) (all digit w) (sym (digits-form w) ∙ e)).1

-- what is known of the digits d after m signs
pub record Known (w d : Name) (m : ℕ) : Type 0 where
  pub few : m ≤ 1
  pub digits : all digit d ≡ true
  pub small : decimal 0 d ≤ 2147483648
  pub bits : number w ≡ ((1 + m * 4294967294) * decimal 0 d) % 4294967296

pub known-digits : (w : Name) (m : ℕ) → is_number w ≡ true → m ≡ minuses (get_or w 0 0) → Known w (take (length w - m) (drop m w)) m
unfolding is_number number unsigned factor
known-digits w m x e =
    let f : m ≤ 1 = omega (arith, e, minuses-few (get_or w 0 0)) in
    let h = both_true (is_digits (drop m w)) (between m (2147483647 + m) (decimal 0 (drop m w))) (rw (← e) at x) in
    let b = between-true m (2147483647 + m) (decimal 0 (drop m w)) h.1 in
    rw (rest_part w m) (record { few = f; digits = digits-all (drop m w) h.0; small = omega (arith, b.1, f); bits = rw (← e) })

-- it fits 64 bits before the remainder is taken
pub product_small : (m n : ℕ) → m ≤ 1 → n ≤ 2147483648 → (1 + m * 4294967294) * n ≤ 9223372034707292160
product_small m n h l = go m h
  where
    go : (m : ℕ) → m ≤ 1 → (1 + m * 4294967294) * n ≤ 9223372034707292160
    go zero h = omega arith
    go (suc zero) h = omega arith
    go (suc (suc m)) h = absurd (omega arith)

pub sign-within : (l : Name) (at m : ℕ) → at ≤ length l → m ≡ minuses (get_or l at 0) → at + m ≤ length l
unfolding minuses
sign-within l at m h e = go (eqb (get_or l at 0) 45) refl e
  where
    go : (q : Bool) → eqb (get_or l at 0) 45 ≡ q → m ≡ cond q 1 0 → at + m ≤ length l
    go true z k = elim (dec_lt at (length l)) [
      | yes i ↦ omega arith
      | no i ↦ absurd (omega (arith, eqb-true (get_or l at 0) 45 z, get_or-eq_default l 0 {n = at} (omega arith)))
    ]
    go false z k = omega arith
