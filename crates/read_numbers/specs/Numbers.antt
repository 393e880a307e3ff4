-- The digits of a number as they are read: ten at most, their value, the range.
use Rattle.std.specs.Prelude.{◌≡◌, Bool, not, ◌&&◌, ◌||◌, ℕ, ◌+◌, ◌-◌, ◌≤◌, eqb, leb, take, drop}
use Rattle.rules.specs.Base.{Name, between}
use Rattle.rules.specs.Text.{digit_zero, up_to, decimal}
use Rattle.read_bytes.specs.Sets.{no_digit}

-- those of the largest number
abbrev pub most_digits : ℕ
most_digits = 10

-- how many digits a text begins with, among its first ten bytes
unfoldable pub digits_in : Name → ℕ
digits_in t = up_to no_digit (take most_digits t)

-- the bytes from `at` up to `end` are digits, at most ten, and `value` is the number that they write
pub record Begun (l : Name) (at value end : ℕ) : Type 0 where
  pub low : at ≤ end
  pub high : end ≤ at + digits_in (drop at l)
  pub is : value ≡ decimal 0 (take (end - at) (drop at l))

-- the same, and no digit follows unless they are ten
pub record TenDigits (l : Name) (at value end : ℕ) : Type 0 where
  pub end_is : end ≡ at + digits_in (drop at l)
  pub value_is : value ≡ decimal 0 (take (digits_in (drop at l)) (drop at l))

-- n digits, b the first of them: some, with no leading zero
unfoldable pub led : ℕ → ℕ → Bool
led n b = leb 1 n && (eqb n 1 || not (eqb b digit_zero))

-- the range of what the digits of a number write after m signs
unfoldable pub in_range : ℕ → ℕ → Bool
in_range m n = between m (2147483647 + m) n
