-- Which methods a method is and reaches, by a queue.
use Rattle.std.specs.Prelude.{◌≡◌, Bool, true, false, cond, ◌||◌, List, [], ◌∷◌, ◌⊎◌, ℕ, ◌+◌, ◌≤◌, ◌<◌, eqb, leb, length, get_or, set, replicate}
use Rattle.rules.specs.Base.{Member}
use Rattle.rules.specs.Limits.{most_methods}
use Rattle.rules.specs.Bounds.{reaches}
use Rattle.tables.specs.Decode.{method_count}
use Rattle.bound_laws.specs.Routes.{calls}
use Rattle.bound_laws.specs.Routes as Routes
use Rattle.bound_rows.specs.Lines.{blocks_in}
use Rattle.bound_lines.specs.declared.Reached.{Reached}

unfoldable pub pushed : Reached → ℕ → Reached
pushed q c = record { has = set q.has c true; order = set q.order q.count c; count = q.count + 1 }

unfoldable pub added : Reached → ℕ → Reached
added q c = cond (get_or q.has c false) q (cond (leb most_methods q.count) q (pushed q c))

-- how many are missing
unfoldable pub missing : List Bool → ℕ
missing [] = 0
missing (b ∷ bs) = cond b 0 1 + missing bs

abbrev pub Has : Reached → ℕ → Type 0
Has q n = get_or q.has n false ≡ true

-- from the method c: all that is there is c or reached from it
pub record Seeking (w : List ℕ) (c : ℕ) (q : Reached) : Type 0 where
  pub sound : (n : ℕ) → Has q n → (n ≡ c) ⊎ Routes.Reaches (blocks_in w) c n
  pub exist : (k : ℕ) → k < q.count → get_or q.order k 0 < method_count w
  pub listed : (k : ℕ) → k < q.count → Has q (get_or q.order k 0)
  pub covered : (n : ℕ) → Has q n → (k : ℕ) × (k < q.count) × (get_or q.order k 0 ≡ n)
  pub starts : Has q c
  pub room : q.count + missing q.has ≤ most_methods
  pub has_length : length q.has ≡ most_methods
  pub order_length : length q.order ≡ most_methods

-- nothing is lost
pub record Grows (q q' : Reached) : Type 0 where
  pub keeps : (n : ℕ) → Has q n → Has q' n
  pub same : (k : ℕ) → k < q.count → get_or q'.order k 0 ≡ get_or q.order k 0
  pub more : q.count ≤ q'.count

-- all that the method m calls is there
pub record Gathered (w : List ℕ) (c m : ℕ) (q q' : Reached) : Type 0 where
  pub seeking : Seeking w c q'
  pub grows : Grows q q'
  pub all : (d : ℕ) → Member d (calls (blocks_in w) m) → Has q' d

-- it holds just what c is and reaches
abbrev pub Reaches : List ℕ → ℕ → Reached → Type 0
Reaches w c q = (a : ℕ) → get_or q.has a false ≡ eqb c a || reaches (blocks_in w) a c

unfoldable pub begun : ℕ → Reached
begun c = record { has = set (replicate most_methods false) c true; order = set (replicate most_methods 0) 0 c; count = 1 }
