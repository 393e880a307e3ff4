-- What the program holds and writes: a main by the digits of its places, and lines of the list.
use Rattle.std.specs.Prelude.{◌≡◌, List, [], ◌∷◌, ◌++◌, map, ℕ, ◌+◌, ◌-◌, ◌≤◌, T, length, take}
use Rattle.rules.specs.Base.{all, keep, between}
use Rattle.rules.specs.Text.{digit_zero}
use Rattle.printer.specs.Writes.{Writes}
use Rattle.small_list.specs.Small.{Main, most_statements, accepted, mains, lines_of}
use Rattle.small.specs.declared.Places.{Places}

-- the longest statement, and three of them; the longest text; all lines that could be listed
abbrev pub most_line : ℕ
most_line = 16

abbrev pub most_body : ℕ
most_body = 48

abbrev pub out_bytes : ℕ
out_bytes = 586

-- MAINS

abbrev pub IsPlace : ℕ → Type 0
IsPlace p = T (between 1 5 p)

abbrev pub places_in : Places → Main
places_in m = map (λ d. d - digit_zero) (take m.count m.digits)

-- its digits are those of places
pub record Known (m : Places) : Type 0 where
  pub few : m.count ≤ most_statements
  pub size : length m.digits ≡ most_statements
  pub digits : map (λ p. digit_zero + p) (places_in m) ≡ take m.count m.digits
  pub places : T (all (between 1 5) (places_in m))

-- r has the statement p more than m
pub record Adds (m : Places) (p : ℕ) (r : Places) : Type 0 where
  pub places : places_in r ≡ places_in m ++ (p ∷ [])
  pub count : r.count ≡ m.count + 1
  pub known : Known r

-- LINES

-- the mains that begin as m and have n statements more
abbrev pub after : Main → ℕ → List Main
after m n = map (λ k. m ++ k) (mains n)

-- so many bytes would their lines take
abbrev pub room : List Main → ℕ
room ms = length (lines_of ms)

-- The lines of those that are accepted stand in o' from a up to e, after those that o has before a.
abbrev pub Lists : List Main → List ℕ → ℕ → List ℕ → ℕ → Type 0
Lists ms o a o' e = Writes o a (lines_of (keep accepted ms)) o' e
