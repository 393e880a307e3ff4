-- A number by its factor: it fits 32 bits, and has the form and the value that it had with a branch for each sign.
use mathlib.Core.Path.{◌≡◌, refl}
use mathlib.Core.Bool.{Bool, true, false, cond, ◌&&◌}
use Prim.Native.Nat.{ℕ, ◌+◌, ◌-◌, ◌*◌, ◌%◌, ◌<◌}
use native.Mathlib.Omega.{arith}
use native.Mathlib.Nat.{mod-lt}
use lib.Dec.{T, eqb, leb, leb→le}
use lib.ListN.{get_or, drop}
use borrow.Author.Tests.{le-leb}
use Rattle.rules.specs.Base.{Name, between}
use Rattle.rules.specs.Syntax.{words}
use Rattle.rules.specs.Text.{minus, decimal, is_digits, is_negative, minuses, factor, unsigned, is_number, number}
use Rattle.rules.proofs.Lists.{and_both}

-- whatever the field is
pub number_small : (w : Name) → number w < words
unfolding number
number_small w = mod-lt (factor (get_or w 0 0) * decimal 0 (unsigned w)) (omega arith)

-- as document 01's reading had it
pub form_before : Name → Bool
form_before w =
    cond (is_negative w)
    (is_digits (drop 1 w) && between 1 2147483648 (decimal 0 (drop 1 w)))
    (is_digits w && leb (decimal 0 w) 2147483647)

pub value_before : Name → ℕ
value_before w = cond (is_negative w) (words - decimal 0 (drop 1 w)) (decimal 0 w)

-- with m signs, as both are now
form : ℕ → Name → Bool
form m w = is_digits (drop m w) && between m (2147483647 + m) (decimal 0 (drop m w))

value : ℕ → Name → ℕ
value m w = ((1 + m * (words - 2)) * decimal 0 (drop m w)) % words

-- "Every text gets the answers that it got before": each field has its form, and the value that goes with it
pub as_before : (w : Name) → (is_number w ≡ form_before w) × (T (is_number w) → number w ≡ value_before w)
unfolding form_before value_before form value is_negative is_number number unsigned factor minuses between
as_before w = go (eqb (get_or w 0 0) minus)
  where
    go :
        (q : Bool) →
        (form (cond q 1 0) w
        ≡ cond q (is_digits (drop 1 w) && between 1 2147483648 (decimal 0 (drop 1 w))) (is_digits w && leb (decimal 0 w) 2147483647))
        × (T (form (cond q 1 0) w) → value (cond q 1 0) w ≡ cond q (words - decimal 0 (drop 1 w)) (decimal 0 w))
    go true = (
      refl,
      λ t.
          let (u, v) = and_both (is_digits (drop 1 w)) _ t in
          let (a, z) = and_both (leb 1 (decimal 0 (drop 1 w))) _ v in
          omega (arith, leb→le 1 (decimal 0 (drop 1 w)) a, leb→le (decimal 0 (drop 1 w)) 2147483648 z),
    )
    go false = (
      rw (le-leb 0 (decimal 0 w) (omega arith)),
      λ t.
          let (u, v) = and_both (is_digits w) _ t in
          let (a, z) = and_both (leb 0 (decimal 0 w)) _ v in
          omega (arith, leb→le (decimal 0 w) 2147483647 z),
    )
