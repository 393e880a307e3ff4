-- Walks along a chain of objects, as the code does them: it counts, and takes a walk over more locations than there are objects for a ring.
use Rattle.std.specs.Prelude.{◌≡◌, ℕ, zero, suc, ◌-◌, ◌<◌, ◌≤◌, Bool, true, cond, List, [], ◌∷◌, ◌==◌, ◌≢◌}
use Rattle.std.proofs.Math.Option.{Option, none, some}
use Rattle.rules.specs.Limits.{most_classes}
use Rattle.rules.specs.Base.{Try, ok, no, ◌>>=◌, ◌>>◌, check}
use Rattle.rules.specs.Answers.{Stop, permission_missing, formula_false}
use Rattle.tables.specs.Numbers.{byte_values}
use Rattle.tables.specs.Tables.{place_at}
use Rattle.run_heap.specs.declared.View.{View}
use Rattle.run_heap.specs.declared.chains.Cache.{Cache}
use Rattle.run_heap.specs.declared.strides.Reached.{Reached}
use Rattle.run_heap.specs.Views.{whole, no_place, cell_value, cell_of, found_of, held_cell}

-- the cell of a field of the object o, if the view's number holds it whole
unfoldable pub whole_cell : List ℕ → View → ℕ → ℕ → Try Stop ℕ
whole_cell w v f o = found_of w v.objects o f >>= held_cell w v.holder whole

-- and if it is free
unfoldable pub free_cell : List ℕ → View → (ℕ → Bool) → ℕ → ℕ → Try Stop ℕ
free_cell w v free f o = whole_cell w v f o >>= λ k. check (free k) permission_missing >> ok k

-- W9: the walk by f from the object o, over fewer than n cells, all held whole and free: its last object, or the one before it
unfoldable pub walk_in : List ℕ → View → (ℕ → Bool) → ℕ → ℕ → ℕ → ℕ → Try Stop ℕ
walk_in w v free f zero o last = no formula_false
walk_in w v free f (suc n) o last =
    let r : Try Stop ℕ = free_cell w v free f o >>= λ k. walk_in w v free f n (cell_value w k) o in
    cond (o == 0) (ok last) r

-- where it passes the object o no more
unfoldable pub walk_end : ℕ → ℕ → Try Stop ℕ
walk_end o last = cond (o == 0) (ok last) (no permission_missing)

-- what there is for a cell, or else d
unfoldable pub at_cell : List ℕ → Option ℕ → (ℕ → List ℕ) → List ℕ
at_cell d none g = d
at_cell d (some k) g = g k

-- of n objects: the cells by f from the object o, at most m
unfoldable pub cells_by : List ℕ → ℕ → ℕ → ℕ → ℕ → List ℕ
cells_by w n f zero o = []
cells_by w n f (suc m) o = at_cell [] (cell_of w n o f) (λ k. k ∷ cells_by w n f m (cell_value w k))

-- what a cache says of its class, if it is for one, is so
pub record Caches (w : List ℕ) (f : ℕ) (c : Cache) : Type 0 where
  pub small : c.place < byte_values
  pub is_place : c.class < most_classes → place_at w c.class f ≡ c.place
  pub has_place : c.class < most_classes → c.place ≢ no_place

-- a test of cells by the code answers as this one
abbrev pub Answers : (ℕ → Bool → Type 0) → (ℕ → Bool) → Type 0
Answers post test = (k : ℕ) (b : Bool) → post k b → b ≡ test k

-- the rest of a walk that is where s says, of fewer cells than there are objects and one more
abbrev pub rest_of : List ℕ → View → ℕ → Reached → Try Stop ℕ
rest_of w v f s = walk_in w v (λ _. true) f (suc v.objects - s.passed) s.at s.last

-- it comes to be where r says, and where it does not come on it is over
pub record Reaches (w : List ℕ) (v : View) (f : ℕ) (s r : Reached) : Type 0 where
  pub further : s.passed ≤ r.passed
  pub walked : rest_of w v f r ≡ rest_of w v f s
  pub over : s.passed ≤ v.objects → r.passed ≡ s.passed → rest_of w v f s ≡ walk_end r.at r.last
