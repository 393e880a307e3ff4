-- The search for a successor: the first term left that is ~ a dropped one.
use Rattle.std.specs.Prelude.{Bool, true, false, cond, not, ◌&&◌, ◌≡◌, List, map, ℕ, ◌+◌, ◌-◌, ◌≤◌, ◌<◌, eqb, ltb, leb, length, get_or}
use Rattle.std.specs.Prelude as Std
use Rattle.std.specs.Prelude.{Some, None, IfSome}
use Rattle.std.proofs.Math.Option.{Option, none, some}
use Rattle.rules.specs.Base.{first, bind_option}
use Rattle.rules.specs.Syntax.{offset, num, null, var, path}
use Rattle.rules.specs.State.{Term, Equality, Renaming, Permission, is_left, path_of, paths, numbers, rising, equal_in, successor}
use Rattle.check_equality.specs.Layout.{left_sides, null_slot, mark_count}
use Rattle.check_equality.specs.Keys.{term_of, first_number}
use Rattle.check_equality.specs.Links.{term_at, place_of}
use Rattle.check_equality.specs.Listing.{listed}
use Rattle.check_state.specs.States.{variable_at, field_at, left_at, path_at_entry, entries, state_of, facts_of}
use Rattle.check_state.specs.Questions.{places}
use Rattle.check_inequality.specs.Ways.{number_like}

-- NUMBERS
-- the number of a number's key, or none
unfoldable pub number_or : Std.Option ℕ → Option ℕ
number_or (Some k) = some (k - first_number)
number_or None = none

-- a number's key, or none
abbrev pub Numbered : Std.Option ℕ → Type 0
Numbered o = IfSome o (λ k. first_number ≤ k)

-- its place in rising order
abbrev pub offset_of : ℕ → ℕ
offset_of k = offset (k - first_number)

-- the lower of two numbers' keys, where there may be one alone
unfoldable pub lower_of : ℕ → Std.Option ℕ → ℕ
lower_of k (Some l) = cond (ltb (offset_of k) (offset_of l)) k l
lower_of k None = k

-- the lower of what there is and the key k, if it is that of a number ~ the term of t
unfoldable pub with_slot : Std.Option ℕ → ℕ → ℕ → ℕ → ℕ → Std.Option ℕ
with_slot best k c t a = cond (number_like k c t a) (Some (lower_of k best)) best

-- the key of a number, whose label is a
unfoldable pub number_with : ℕ → ℕ → ℕ → Bool
number_with k c a = eqb c a && leb first_number k

-- the side i is a number whose label is a
abbrev pub number_at_side : List ℕ → List ℕ → ℕ → ℕ → Bool
number_at_side key b a i = number_with (get_or key (left_sides + i) 0) (get_or b (left_sides + i) 0) a

-- the terms of the first n sides
abbrev pub side_terms : List ℕ → ℕ → List Term
side_terms key n = listed (λ i. term_at key (left_sides + i)) n

-- the least number that is ~ the term of t among them: the first of all, rising
abbrev pub least_number : Equality → List ℕ → ℕ → ℕ → Option ℕ
least_number ◌~◌ key n t = first (λ v. ◌~◌ (num v) (term_of t)) (rising (numbers (side_terms key n)))

-- PATHS
-- the places of the key t, and of the sides in the slots up to m with the label a, are marked
pub record MarksLike (key b : List ℕ) (m t a : ℕ) (marks : List Bool) : Type 0 where
  pub size : length marks ≡ mark_count
  pub own : get_or marks (place_of t) false ≡ true
  pub at : (i : ℕ) → left_sides ≤ i → i < m → get_or b i 0 ≡ a → get_or marks (place_of (get_or key i 0)) false ≡ true

-- the path `x.f` is left, and is ~ the term of t
unfoldable pub path_test : Equality → Bool → ℕ → ℕ → ℕ → Bool
path_test ◌~◌ left x f t = left && ◌~◌ (path x f) (term_of t)

-- that of the entry i
abbrev pub entry_path_test : Equality → List ℕ → List Bool → ℕ → ℕ → Bool
entry_path_test ◌~◌ b skip t i = path_test ◌~◌ (left_at b skip i) (variable_at b i) (field_at b i) t

-- SUCCESSORS
-- a term by its key, or none
unfoldable pub term_or : Std.Option ℕ → Option Term
term_or (Some k) = some (term_of k)
term_or None = none

-- what a search may ask of a dropping, with ps the permissions left: x and the entries to be skipped are not left, all else is
pub record Drops (ρ : Renaming) (ps : List Permission) (b : List ℕ) (skip : List Bool) (x : ℕ) : Type 0 where
  pub variables : (v : ℕ) → v < null_slot → is_left ρ (var v) ≡ not (eqb v x)
  pub null : is_left ρ null ≡ true
  pub numbers : (n : ℕ) → is_left ρ (num n) ≡ true
  pub paths :
      (q : Term → Bool) →
      first (λ u. is_left ρ u && q u) (map path_of (paths ps))
      ≡ bind_option (first (λ i. left_at b skip i && q (path_at_entry b i)) (places (entries b))) (λ i. some (path_at_entry b i))

-- r is the successor of the term of t, whatever drops that
abbrev pub IsSuccessor : List ℕ → List ℕ → List Bool → ℕ → ℕ → Std.Option ℕ → Type 0
IsSuccessor key b skip x t r =
    (ρ : Renaming) (ps : List Permission) → Drops ρ ps b skip x → term_or r ≡ successor (equal_in (state_of key b)) ρ ps (facts_of key b) (term_of t)
