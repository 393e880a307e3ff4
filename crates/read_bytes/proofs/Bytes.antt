-- Laws of the classes of bytes, by where a byte stands in order.
use mathlib.Core.Path.{◌≡◌, refl}
use mathlib.Core.Bool.{Bool, true, false, not, ◌||◌}
use Prim.Native.Nat.{ℕ, ◌≤◌, ◌<◌}
use native.Mathlib.Omega.{arith}
use native.Mathlib.Decide.{dec_lt}
use lib.Dec.{eqb, leb, ltb}
use borrow.Author.Tests.{eqb-true, le-leb, lt-leb, le-ltb, lt-ltb, ne_eqb}
use Rattle.rules.specs.Base.{between}
use Rattle.rules.specs.Text.{allowed, letter, digit, letter_or_digit}
use Rattle.read_bytes.specs.Sets.{in_set}
use Rattle.read_bytes.specs.declared.Set.TheVariants.{LineEnd}

or-false-right : (q : Bool) → (q || false) ≡ q
or-false-right true = refl
or-false-right false = refl

not-leb : (a b : ℕ) → not (leb a b) ≡ ltb b a
not-leb a b = elim (dec_lt b a) [ yes h ↦ rw (lt-leb a b h, lt-ltb b a h) | no h ↦ rw (le-leb a b (omega arith), le-ltb b a (omega arith)) ]

module _ (b : ℕ) where
  pub letter-small : 97 ≤ b → letter b ≡ leb b 122
  unfolding letter between
  letter-small h = rw (lt-leb b 90 (omega arith), le-leb 65 b (omega arith), le-leb 97 b h)

  pub letter-capital : b < 97 → letter b ≡ between 65 90 b
  unfolding letter between
  letter-capital h = rw (lt-leb 97 b h) (or-false-right _)

  pub alnum-small : 97 ≤ b → letter_or_digit b ≡ leb b 122
  unfolding letter_or_digit digit between
  alnum-small h = rw (letter-small h, le-leb 48 b (omega arith), lt-leb b 57 (omega arith)) (or-false-right _)

  pub alnum-capital : b < 97 → 65 ≤ b → letter_or_digit b ≡ leb b 90
  unfolding letter_or_digit digit between
  alnum-capital h l = rw (letter-capital h, le-leb 65 b l, le-leb 48 b (omega arith), lt-leb b 57 (omega arith)) (or-false-right _)

  pub alnum-digit : b < 65 → letter_or_digit b ≡ digit b
  unfolding letter_or_digit between
  alnum-digit h = rw (letter-capital (omega arith), lt-leb 65 b h)

  pub line-end-low : b < 33 → in_set LineEnd b ≡ not (eqb b 9)
  unfolding allowed between
  line-end-low h = rw (lt-leb 33 b h) (go (eqb b 9) (eqb b 10) refl refl)
    where
      go : (p q : Bool) → eqb b 9 ≡ p → eqb b 10 ≡ q → (q || not (p || (q || false))) ≡ not p
      go true true d e = absurd (omega (arith, eqb-true b 9 d, eqb-true b 10 e))
      go true false d e = refl
      go false true d e = refl
      go false false d e = refl

  pub line-end-high : 33 ≤ b → in_set LineEnd b ≡ ltb 126 b
  unfolding allowed between
  line-end-high h = rw (ne_eqb b 9 (λ e. omega arith), ne_eqb b 10 (λ e. omega arith), le-leb 33 b h) (not-leb b 126)
