-- Sides of the facts that are dropped, or renamed.
use Rattle.std.specs.Prelude.{◌≡◌, ℕ, ◌+◌, ◌-◌, ◌*◌, ◌<◌, ◌≤◌, Bool, false, cond, ◌&&◌, ◌||◌, List, length, ◌==◌, nat_le, nat_lt, slice_index, slice_index_or}
use Rattle.check_equality.specs.Layout.{slots, left_sides}
use Rattle.check_equality.specs.Keys.{first_path, paths}
use Rattle.check_equality.specs.Links.{Header}

-- a key, with the variable `to` for x
unfoldable pub renamed_key : ℕ → ℕ → ℕ → ℕ
renamed_key x to k =
    cond (k == x) to
    (cond (nat_le (first_path + x * paths) k && nat_lt (k - (first_path + x * paths)) paths) (first_path + to * paths + (k - (first_path + x * paths))) k)

-- it names x
unfoldable pub mentions_key : ℕ → ℕ → Bool
mentions_key x k = k == x || (nat_le (first_path + x * paths) k && nat_lt (k - (first_path + x * paths)) paths)

-- the sides dropped: the flags of the facts' slots up to m
pub record Dropped (test : ℕ → Bool) (key : List ℕ) (m : ℕ) (gone : List Bool) : Type 0 where
  pub size : length gone ≡ slots
  pub at : (j : ℕ) → left_sides ≤ j → j < m → slice_index_or gone j false ≡ test (slice_index key j)

-- the sides in the facts' slots up to m by a map of keys
pub record MappedKeys (map : ℕ → ℕ) (key : List ℕ) (m : ℕ) (key' : List ℕ) : Type 0 where
  pub header : Header key'
  pub at : (j : ℕ) → left_sides ≤ j → j < m → slice_index key' j ≡ map (slice_index key j)

-- what a call says of the key in a slot from the facts' up to m is what f says
abbrev pub Tells : {R : Type 0} → (ℕ → R → Type 0) → (ℕ → R) → List ℕ → ℕ → Type 0
Tells {R = R} post f key m = (j : ℕ) (r : R) → left_sides ≤ j → j < m → post (slice_index key j) r → r ≡ f (slice_index key j)
