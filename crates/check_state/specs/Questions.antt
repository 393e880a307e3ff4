-- What the functions that read a state answer.
use Rattle.std.specs.Prelude.{◌≡◌, Bool, true, false, not, cond, ◌&&◌, List, ℕ, ◌≤◌, ◌<◌, eqb, ltb, leb, length, get_or, Option, Some, None}
use Rattle.std.proofs.Math.Option as Math
use Rattle.std.proofs.Math.Option.{none, some}
use Rattle.rules.specs.Base.{Try, ok, no}
use Rattle.rules.specs.Answers.{Refusal, unresolved}
use Rattle.rules.specs.Limits.{most_permissions}
use Rattle.rules.specs.Syntax.{var}
use Rattle.rules.specs.State as Rules
use Rattle.rules.specs.State.{Fact, Equality, representative, equal_by, path_of}
use Rattle.check_equality.specs.Layout.{slots, left_sides}
use Rattle.check_equality.specs.Keys.{term_of}
use Rattle.check_equality.specs.Listing.{listed}
use Rattle.check_equality.specs.Links.{Header, Decides}
use Rattle.check_state.specs.States.{variable_at, field_at, permission_at, entries}

-- so many slots are taken: those before the facts', and some of the facts'
pub record Slots (key b : List ℕ) (m : ℕ) : Type 0 where
  pub header : Header key
  pub some : left_sides ≤ m
  pub most : m ≤ slots

-- P of ~, whatever facts the labels decide
abbrev pub Told : List ℕ → List ℕ → ℕ → (Equality → Type 0) → Type 0
Told key b m P = (fs : List Fact) → Decides fs key b m → P (equal_by (representative fs))

-- the first of the places below n that passes, or n
pub record FirstPlace (test : ℕ → Bool) (n r : ℕ) : Type 0 where
  pub within : r ≤ n
  pub before : (i : ℕ) → i < r → test i ≡ false
  pub found : r < n → test r ≡ true

-- a number for each entry: f i for those below n
pub record Bytes (f : ℕ → ℕ) (n : ℕ) (r : List ℕ) : Type 0 where
  pub size : length r ≡ most_permissions
  pub at : (i : ℕ) → i < n → get_or r i 0 ≡ f i

-- an entry by f of x serves, and x ~ t and f is g
unfoldable pub passes : Equality → Rules.Term → ℕ → Bool → ℕ → ℕ → Bool
passes ◌~◌ t g serves x f = serves && (eqb f g && ◌~◌ (var x) t)

-- its kind is one of those from `least` to `most`
unfoldable pub in_range : ℕ → ℕ → ℕ → Bool
in_range least most k = leb least k && leb k most

-- the entry i, with the kind that `kinds` has for it
abbrev pub entry_test : List ℕ → List ℕ → ℕ → ℕ → Rules.Term → ℕ → Equality → ℕ → Bool
entry_test b kinds least most t g ◌~◌ i = passes ◌~◌ t g (in_range least most (get_or kinds i 0)) (variable_at b i) (field_at b i)

abbrev pub places : ℕ → List ℕ
places n = listed (λ i. i) n

-- a term by its key, or that an expression is unresolved
unfoldable pub resolved_as : Option ℕ → Try Refusal Rules.Term
resolved_as (Some k) = ok (term_of k)
resolved_as None = no unresolved

-- the path of entry i
unfoldable pub path_at : List ℕ → ℕ → Try Refusal Rules.Term
path_at b i = cond (ltb i (entries b)) (ok (path_of (permission_at b i))) (no unresolved)

-- no variable
abbrev pub no_variable : ℕ
no_variable = 255

-- a variable, or none, as the rules have it
unfoldable pub variable_or : Option ℕ → Math.Option ℕ
variable_or (Some v) = some v
variable_or None = none

-- another variable than x, and ~ t
unfoldable pub stands_for : Equality → ℕ → Rules.Term → ℕ → Bool
stands_for ◌~◌ x t v = not (eqb v x) && ◌~◌ (var v) t
