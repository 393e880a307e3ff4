-- Where forgetting begins: the first fact that it may change.
use Rattle.std.specs.Prelude.{◌≡◌, ℕ, ◌+◌, ◌*◌, ◌<◌, ◌≤◌, Bool, false, not, ◌&&◌, ◌||◌, List, ◌==◌, slice_index, slice_index_or}
use Rattle.check_equality.specs.Layout.{left_sides, right_sides, relations_at}
use Rattle.check_equality.specs.Links.{place_of}
use Rattle.check_state.specs.States.{facts}
use Rattle.check_scans.specs.Sides.{mentions_key}

-- an equality with one term on both sides; c is 1 for an inequality
unfoldable pub same_sides : ℕ → ℕ → ℕ → Bool
same_sides c l r = not (c == 1) && l == r

abbrev pub trivial_at : List ℕ → List ℕ → ℕ → Bool
trivial_at key b i = same_sides (slice_index b (relations_at + i)) (slice_index key (left_sides + 2 * i)) (slice_index key (right_sides + 2 * i))

-- a fact has a side that passes, or one term on both sides
unfoldable pub touches : (ℕ → Bool) → ℕ → ℕ → Bool
touches test l r = test l || (test r || l == r)

-- no fact before r is such
pub record Scanned (test : ℕ → Bool) (key b : List ℕ) (r : ℕ) : Type 0 where
  pub most : r ≤ facts b
  pub sides : (j : ℕ) → left_sides ≤ j → j < left_sides + 2 * r → test (slice_index key j) ≡ false
  pub plain : (i : ℕ) → i < r → trivial_at key b i ≡ false

-- the place of the key is marked
abbrev pub marked_key : List Bool → ℕ → Bool
marked_key marks k = slice_index_or marks (place_of k) false

-- the key of a path of x
unfoldable pub path_key_of : ℕ → ℕ → Bool
path_key_of x k = not (k == x) && mentions_key x k

-- no slot from `from` to m holds one
abbrev pub NoPath : List ℕ → ℕ → ℕ → ℕ → Type 0
NoPath key from m x = (j : ℕ) → from ≤ j → j < m → path_key_of x (slice_index key j) ≡ false

-- the facts before i stay
pub record Untouched (key b : List ℕ) (gone : List Bool) (i : ℕ) : Type 0 where
  pub most : i ≤ facts b
  pub flags : (j : ℕ) → left_sides ≤ j → j < left_sides + 2 * i → slice_index_or gone j false ≡ false
  pub plain : (c : ℕ) → c < i → trivial_at key b c ≡ false
