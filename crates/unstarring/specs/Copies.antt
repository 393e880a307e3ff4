-- The copy of a text in which each star is a formula without atoms, and the lines of the first two stars.
use Rattle.std.specs.Prelude.{◌≡◌, Option, Some, None, cond, List, [], ◌∷◌, ◌++◌, ℕ, ◌+◌, ◌-◌, ◌≤◌, ◌<◌, length, slice_get, take, drop}
use Rattle.std.specs.Option.{option_or}
use Rattle.rules.specs.Base.{Name}
use Rattle.rules.specs.Text.{lines}
use Rattle.rules.specs.Fill.{is_starred, requires_line, stars_from, with_atoms}
use Rattle.filling.specs.Claims.{joined}
use Rattle.unstarring.specs.declared.Stars.{Stars}

-- a line without its star
unfoldable pub unstarred : Name → Name
unstarred l = cond (is_starred l) (requires_line []) l

-- the line of t that begins at a ends before e
pub record LineTo (t : List ℕ) (a e : ℕ) : Type 0 where
  pub low : a < e
  pub high : e ≤ length t
  pub cut : lines (drop a t) ≡ take (e - a) (drop a t) ∷ lines (drop e t)

-- the second star's line, if line n has one more star than the first
abbrev pub second_at : Option ℕ → Option ℕ → ℕ → Option ℕ
second_at (Some m) l n = option_or l (Some n)
second_at None l n = l

-- one star more, at line n; the copy so far has len bytes
unfoldable pub with_star : Stars → ℕ → ℕ → Stars
with_star s n len =
    record {
      len = len;
      first = option_or s.first (Some n);
      second = second_at s.first s.second n;
    }

abbrev pub without_star : Stars → ℕ → Stars
without_star s len = record { len = len; first = s.first; second = s.second }

-- line n, which is l, is in the copy: c before it, c' after it
pub record LineCopied (l : Name) (n : ℕ) (c : List ℕ) (s : Stars) (c' : List ℕ) (r : Stars) : Type 0 where
  pub copied : take r.len c' ≡ take s.len c ++ unstarred l
  pub short : r.len ≤ s.len + length l
  pub stars : r ≡ cond (is_starred l) (with_star s n r.len) (without_star s r.len)
  pub size : length c' ≡ length c

-- all lines of t are
pub record Unstarred (t c : List ℕ) (s : Stars) : Type 0 where
  pub copied : take s.len c ≡ joined (with_atoms [] (lines t))
  pub short : s.len ≤ length t
  pub first : s.first ≡ slice_get (stars_from 0 (lines t)) 0
  pub second : s.second ≡ slice_get (stars_from 0 (lines t)) 1
