-- The entries of a state of which some are out, and what becomes of them.
use Rattle.std.specs.Prelude.{◌≡◌, Bool, false, cond, List, [], ◌∷◌, ◌++◌, ◌⊎◌, ℕ, zero, suc, ◌+◌, ◌≤◌, ◌<◌, eqb, length, get_or}
use Rattle.rules.specs.Limits.{most_permissions}
use Rattle.rules.specs.State.{Permission, entry}
use Rattle.check_equality.specs.Layout.{variables_at, fact_count, kinds_at, bytes, chain_kind}
use Rattle.check_equality.specs.Links.{picked}
use Rattle.check_state.specs.States.{entries, variable_at, field_at, permit_of, permissions_in, permissions_of, permission_at, kind_at, IsKind, KindsIn}

-- LISTS OF WHICH SOME ELEMENTS ARE OUT
-- those of f 0 to f (n - 1) that are not out
unfoldable pub kept : {A : Type 0} → List Bool → (ℕ → A) → ℕ → List A
kept out f zero = []
kept out f (suc n) = kept out f n ++ cond (get_or out n false) [] (f n ∷ [])

-- flags of the places below n
pub record Flags (test : ℕ → Bool) (n : ℕ) (r : List Bool) : Type 0 where
  pub size : length r ≡ most_permissions
  pub at : (i : ℕ) → i < n → get_or r i false ≡ test i

-- WHAT A FORMULA LEAVES
-- what is left of an entry by f of x: one of the kind k, or none where that is 0
unfoldable pub entry_left : ℕ → ℕ → ℕ → List Permission
entry_left k x f = cond (eqb k 0) [] (entry (permit_of k) x f ∷ [])

-- part 0 to part (n - 1), one after the other
unfoldable pub appended : {A : Type 0} → (ℕ → List A) → ℕ → List A
appended part zero = []
appended part (suc n) = appended part n ++ part n

-- what is left of the first n entries, where `left` has the kinds of what is left of each
abbrev pub left_in : List ℕ → List ℕ → ℕ → List Permission
left_in b left n = appended (λ i. entry_left (get_or left i 0) (variable_at b i) (field_at b i)) n

abbrev pub left_of : List ℕ → List ℕ → List Permission
left_of b left = left_in b left (entries b)

-- no path has more halves left than it owns, and a chain is left whole or not at all
pub record LeftFits (b left : List ℕ) : Type 0 where
  pub size : length left ≡ most_permissions
  pub most : (i : ℕ) → i < entries b → get_or left i 0 ≤ kind_at b i
  pub whole : (i : ℕ) → i < entries b → chain_kind ≤ kind_at b i → (get_or left i 0 ≡ 0) ⊎ (get_or left i 0 ≡ chain_kind)

-- the kind of an entry of which this is left: one that is out keeps its own
unfoldable pub kind_left : ℕ → ℕ → ℕ
kind_left left k = cond (eqb left 0) k left

-- the kinds are what is left, of the first n entries, and nothing else changes
pub record StoredLeft (b left : List ℕ) (n : ℕ) (b' : List ℕ) : Type 0 where
  pub size : length b' ≡ bytes
  pub kinds : (i : ℕ) → i < n → kind_at b' i ≡ kind_left (get_or left i 0) (kind_at b i)
  pub rest : (i : ℕ) → (i < kinds_at) ⊎ (kinds_at + n ≤ i) → get_or b' i 0 ≡ get_or b i 0

-- the entries of which nothing is left are out
abbrev pub OutBy : List ℕ → ℕ → List Bool → Type 0
OutBy left n out = Flags (λ i. eqb (get_or left i 0) 0) n out

-- ENTRIES
-- the variables of the first n renamed, and nothing else
pub record RenamedEntries (x to : ℕ) (b : List ℕ) (n : ℕ) (b' : List ℕ) : Type 0 where
  pub size : length b' ≡ bytes
  pub variables : (i : ℕ) → i < n → variable_at b' i ≡ picked x to (variable_at b i)
  pub rest : (i : ℕ) → (i < variables_at) ⊎ (variables_at + n ≤ i) → get_or b' i 0 ≡ get_or b i 0

-- the entry i is what it was
pub record SameEntry (b b' : List ℕ) (i : ℕ) : Type 0 where
  pub permission : permission_at b' i ≡ permission_at b i
  pub kind : kind_at b' i ≡ kind_at b i

-- one more entry, unless it is out
pub record KeepsEntry (b : List ℕ) (n : ℕ) (out : Bool) (x f k : ℕ) (b' : List ℕ) (n' : ℕ) : Type 0 where
  pub few : n' ≤ n + 1
  pub size : length b' ≡ bytes
  pub kinds : IsKind k → KindsIn b n → KindsIn b' n'
  pub entries : permissions_in b' n' ≡ permissions_in b n ++ cond out [] (entry (permit_of k) x f ∷ [])
  pub later : (j : ℕ) → n < j → j < most_permissions → SameEntry b b' j
  pub rest : (j : ℕ) → (j < variables_at) ⊎ (j ≡ fact_count) → get_or b' j 0 ≡ get_or b j 0

-- the entries that are not out; the facts stay
pub record Packed (b : List ℕ) (out : List Bool) (b' : List ℕ) : Type 0 where
  pub size : length b' ≡ bytes
  pub few : entries b' ≤ most_permissions
  pub kinds : KindsIn b (entries b) → KindsIn b' (entries b')
  pub entries : permissions_of b' ≡ kept out (permission_at b) (entries b)
  pub rest : (i : ℕ) → (i < variables_at) ⊎ (i ≡ fact_count) → get_or b' i 0 ≡ get_or b i 0
