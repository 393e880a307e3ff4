-- When lent areas have their lengths.
use Rattle.std.specs.Prelude.{Bool, ◌&&◌, List, ℕ, eqb, length}
use Rattle.rules.specs.Limits.{work_bytes}

-- the work area and another one, of n bytes, have their lengths: otherwise "a lent area of wrong length", number 1
unfoldable pub areas_fit : List ℕ → List ℕ → ℕ → Bool
areas_fit work other n = eqb (length work) work_bytes && eqb (length other) n
