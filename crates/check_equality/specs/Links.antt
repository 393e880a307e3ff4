-- ~ by labels: each slot holds a term and a label, and two slots have one label where the facts link their terms.
-- Slots 0 to 14 hold the variables, 15 null, then two for each fact.
use Rattle.std.specs.Prelude.{◌≡◌, Bool, true, false, cond, List, [], ◌∷◌, ◌++◌, ◌⊎◌, ℕ, ◌+◌, ◌/◌, ◌%◌, ◌≤◌, ◌<◌, eqb, length, get_or, set}
use Rattle.rules.specs.Syntax.{Rel, eq, ne}
use Rattle.rules.specs.State.{Term, Fact, representative}
use Rattle.check_equality.specs.Layout.{slots, null_slot, left_sides, mark_count, mark_fold}
use Rattle.check_equality.specs.Keys.{term_of, null_key}

abbrev pub term_at : List ℕ → ℕ → Term
term_at key i = term_of (get_or key i 0)

-- the slots before the facts'
pub record Header (key : List ℕ) : Type 0 where
  pub size : length key ≡ slots
  pub variables : (i : ℕ) → i < null_slot → get_or key i 0 ≡ i
  pub null : get_or key null_slot 0 ≡ null_key

-- the label of a term's slot, or that it has none
abbrev pub no_label : ℕ
no_label = 255

pub record HasLabel (key label : List ℕ) (m k r : ℕ) : Type 0 where
  pub place : ℕ
  pub within : place < m
  pub is : get_or key place 0 ≡ k
  pub shown : r ≡ get_or label place 0

pub record Missing (key : List ℕ) (m k r : ℕ) : Type 0 where
  pub nowhere : (i : ℕ) → i < m → get_or key i 0 ≡ k → ⊥
  pub shown : r ≡ no_label

-- no slot from left_sides on before r holds the key
pub record Past (key : List ℕ) (m k r : ℕ) : Type 0 where
  pub some : left_sides ≤ r
  pub most : r ≤ m
  pub nowhere : (i : ℕ) → left_sides ≤ i → i < r → get_or key i 0 ≡ k → ⊥

abbrev pub Labelled : List ℕ → List ℕ → ℕ → ℕ → ℕ → Type 0
Labelled key label m k r = HasLabel key label m k r ⊎ Missing key m k r

-- the facts link two terms
abbrev pub Alike : List Fact → Term → Term → Type 0
Alike fs t u = representative fs t ≡ representative fs u

-- two terms stand in slots of one label
pub record Together (key label : List ℕ) (m : ℕ) (t u : Term) : Type 0 where
  pub one : ℕ
  pub other : ℕ
  pub one_within : one < m
  pub other_within : other < m
  pub one_is : term_at key one ≡ t
  pub other_is : term_at key other ≡ u
  pub agree : get_or label one 0 ≡ get_or label other 0

-- the labels of the first m slots decide ~
pub record Decides (fs : List Fact) (key label : List ℕ) (m : ℕ) : Type 0 where
  pub low : (i : ℕ) → i < m → get_or label i 0 < m
  pub unique : (i j : ℕ) → i < m → j < m → term_at key i ≡ term_at key j → get_or label i 0 ≡ get_or label j 0
  pub sound : (i j : ℕ) → i < m → j < m → get_or label i 0 ≡ get_or label j 0 → Alike fs (term_at key i) (term_at key j)
  pub linked : (t u : Term) → Alike fs t u → (t ≡ u) ⊎ Together key label m t u

-- a label, or `to` where it is `from`
unfoldable pub picked : ℕ → ℕ → ℕ → ℕ
picked from to l = cond (eqb l from) to l

-- the label `to` for each label `from`; what stands after the labels stays
pub record Merged (from to : ℕ) (label label' : List ℕ) : Type 0 where
  pub size : length label' ≡ length label
  pub labels : (i : ℕ) → i < slots → get_or label' i 0 ≡ picked from to (get_or label i 0)
  pub rest : (i : ℕ) → slots ≤ i → get_or label' i 0 ≡ get_or label i 0

-- the terms in the slots m and m + 1 are made equal: a new term, which has its slot's number, takes the other's label
pub data Joined (m : ℕ) (label label' : List ℕ) : Type 0 where
  left_new : get_or label m 0 ≡ m → label' ≡ set label m (get_or label (m + 1) 0) → Joined m label label'
  right_new : get_or label (m + 1) 0 ≡ m + 1 → label' ≡ set label (m + 1) (get_or label m 0) → Joined m label label'
  both_known : Merged (get_or label m 0) (get_or label (m + 1) 0) label label' → Joined m label label'

-- the terms in the slots m and m + 1 are made equal, unless b: the fact is an inequality
pub record LinkedUnless (b : Bool) (m : ℕ) (label label' : List ℕ) : Type 0 where
  pub apart : b ≡ true → label' ≡ label
  pub equal : b ≡ false → Joined m label label'

unfoldable pub rel_of : Bool → Rel
rel_of b = cond b ne eq

abbrev pub fact_of : Bool → ℕ → ℕ → Fact
fact_of b l r = record { rel = rel_of b; left = term_of l; right = term_of r }

-- one more slot
pub record Slotted (key label : List ℕ) (m k : ℕ) (key' label' : List ℕ) : Type 0 where
  pub keys : key' ≡ set key m k
  pub size : length label' ≡ length label
  pub rest : (i : ℕ) → (i ≡ m → ⊥) → get_or label' i 0 ≡ get_or label i 0
  pub labels : (fs : List Fact) → Decides fs key label m → Decides fs key' label' (m + 1)

-- one more fact, whose sides take the slots m and m + 1
pub record Pushed (key label : List ℕ) (m : ℕ) (b : Bool) (l r : ℕ) (key' label' : List ℕ) : Type 0 where
  pub keys : key' ≡ set (set key m l) (m + 1) r
  pub size : length label' ≡ length label
  pub rest : (i : ℕ) → slots ≤ i → get_or label' i 0 ≡ get_or label i 0
  pub labels : (fs : List Fact) → Decides fs key label m → Decides (fs ++ (fact_of b l r ∷ [])) key' label' (m + 2)

-- a place among the marks for each key
unfoldable pub place_of : ℕ → ℕ
place_of k = (k / mark_fold + k % mark_count) % mark_count

-- the place of the key k is marked, if `yes`
pub record Marks (yes : Bool) (k : ℕ) (marks marks' : List Bool) : Type 0 where
  pub size : length marks' ≡ length marks
  pub new : yes ≡ true → get_or marks' (place_of k) false ≡ true
  pub old : (p : ℕ) → get_or marks p false ≡ true → get_or marks' p false ≡ true

-- the places of the sides in the slots up to m are marked
pub record Marked (key : List ℕ) (marks : List Bool) (m : ℕ) : Type 0 where
  pub size : length marks ≡ mark_count
  pub at : (i : ℕ) → left_sides ≤ i → i < m → get_or marks (place_of (get_or key i 0)) false ≡ true

-- are the terms of two keys with their labels ~?
unfoldable pub alike_by : ℕ → ℕ → ℕ → ℕ → Bool
alike_by k a l b = cond (eqb a no_label) (eqb k l) (eqb a b)
