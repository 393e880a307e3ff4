-- Sets of bytes, and the search for the first byte of a set.
use Rattle.std.specs.Prelude.{◌≡◌, Bool, not, ◌||◌, List, ℕ, ◌+◌, ◌≤◌, eqb, length, drop}
use Rattle.rules.specs.Text.{tab, line_feed, full_stop, allowed, digit, letter_or_digit, up_to}
use Rattle.read_bytes.specs.declared.Set.{Set}
use Rattle.read_bytes.specs.declared.Set.TheVariants.{LineEnd, FieldEnd, FullStop, NotLetterOrDigit}

-- A line ends at its LF or at a byte that is not allowed, whichever comes first; a field at a tab or at LF.
abbrev pub in_set : Set → ℕ → Bool
in_set LineEnd b = eqb b line_feed || not (allowed b)
in_set FieldEnd b = eqb b tab || eqb b line_feed
in_set FullStop b = eqb b full_stop
in_set NotLetterOrDigit b = not (letter_or_digit b)

abbrev pub no_digit : ℕ → Bool
no_digit b = not (digit b)

-- r is the first place from at on whose byte is in the set, or the end.
pub record FirstInSet (l : List ℕ) (at : ℕ) (s : Set) (r : ℕ) : Type 0 where
  pub low : at ≤ r
  pub high : r ≤ length l
  pub is : r ≡ at + up_to (in_set s) (drop at l)
