-- What the list of small scripts promises: every accepted main a single time, no refused one, in order, 39 of them.
use Rattle.std.specs.Prelude.{◌≡◌, Bool, true, false, ◌&&◌, ◌||◌, List, [], ◌∷◌, map, ℕ, T, eqb, leb, ltb, length}
use Rattle.rules.specs.Base.{Member, eq_name, all, keep, between}
use Rattle.small_list.specs.Small.{Main, most_statements, accepted, small}

-- "main of 0 to 3 statements": at most so many, each one of the five
unfoldable pub is_main : Main → Bool
is_main m = leb (length m) most_statements && all (between 1 5) m

-- how often a main stands in a list
unfoldable pub times_in : Main → List Main → ℕ
times_in m ms = length (keep (eq_name m) ms)

-- "the first statement that differs" has an earlier place
unfoldable pub first_differs : Main → Main → Bool
first_differs [] qs = false
first_differs (p ∷ ps) [] = false
first_differs (p ∷ ps) (q ∷ qs) = let r : Bool = first_differs ps qs in ltb p q || (eqb p q && r)

-- "Shorter ones come first, then by the first statement that differs."
unfoldable pub comes_before : Main → Main → Bool
comes_before m n = ltb (length m) (length n) || (eqb (length m) (length n) && first_differs m n)

-- each comes before all that follow it
unfoldable pub in_order : List Main → Bool
in_order [] = true
in_order (m ∷ ms) = let r : Bool = in_order ms in all (comes_before m) ms && r

-- how many have 0, 1, 2 and 3 statements
unfoldable pub counts_of : List Main → List ℕ
counts_of ms = map (λ n. length (keep (λ m. eqb (length m) n) ms)) (0 ∷ 1 ∷ 2 ∷ 3 ∷ [])

-- "Each accepted one stands in the list a single time and no refused one does"
pub record ListsAll : Type 0 where
  pub once : (m : Main) → T (is_main m) → T (accepted m) → times_in m small ≡ 1
  pub only : (m : Main) → Member m small → T (is_main m) × T (accepted m)
  pub ordered : T (in_order small)

-- "1, 2, 7 and 29 of them, 39 together"
abbrev pub Counts : Type 0
Counts = (counts_of small ≡ 1 ∷ 2 ∷ 7 ∷ 29 ∷ []) × (length small ≡ 39)

-- Everything above computes where this unfolds.
unfoldable pub opened : Unit {0}
unfolding is_main times_in first_differs comes_before in_order counts_of
opened = tt
