-- Bytes written at a place of a lent buffer.
use Rattle.std.specs.Prelude.{◌≡◌, List, ◌++◌, ℕ, ◌+◌, ◌≤◌, length, take}

-- The bytes bs stand in o' from a up to e, after those that o has before a.
pub record Writes (o : List ℕ) (a : ℕ) (bs : List ℕ) (o' : List ℕ) (e : ℕ) : Type 0 where
  pub size : length o' ≡ length o
  pub end : e ≡ a + length bs
  pub high : e ≤ length o'
  pub are : take e o' ≡ take a o ++ bs

-- The first r bytes of o are bs.
pub record Prints (bs o : List ℕ) (r : ℕ) : Type 0 where
  pub high : r ≤ length o
  pub are : take r o ≡ bs
