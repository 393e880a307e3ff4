-- The checker's state in the code, and the state of the definitions that it means. It stands in two arrays, as
-- `Layout` of check_equality says.
use Rattle.std.specs.Prelude.{◌≡◌, Bool, false, not, cond, ◌&&◌, List, ℕ, ◌+◌, ◌*◌, ◌≤◌, ◌<◌, eqb, ltb, length, get_or, drop}
use Rattle.rules.specs.Limits.{most_permissions, most_facts}
use Rattle.rules.specs.Syntax.{Permit, acc, read, chain, path}
use Rattle.rules.specs.State as Rules
use Rattle.rules.specs.State.{Permission, Fact, entry}
use Rattle.check_equality.specs.Layout.{left_sides, right_sides, relations_at, variables_at, fields_at, fact_count, entry_count, kinds_at, read_kind, acc_kind, chain_kind, bytes}
use Rattle.check_equality.specs.Listing.{listed}
use Rattle.check_equality.specs.Links.{Header, Decides, fact_of}

-- is the fact i an inequality?
abbrev pub apart_at : List ℕ → ℕ → Bool
apart_at b i = eqb (get_or b (relations_at + i) 0) 1

-- the fact i: its sides stand in two slots
abbrev pub fact_at : List ℕ → List ℕ → ℕ → Fact
fact_at key b i = fact_of (apart_at b i) (get_or key (left_sides + 2 * i) 0) (get_or key (right_sides + 2 * i) 0)

abbrev pub facts_in : List ℕ → List ℕ → ℕ → List Fact
facts_in key b n = listed (fact_at key b) n

-- the entry i
abbrev pub variable_at : List ℕ → ℕ → ℕ
variable_at b i = get_or b (variables_at + i) 0

abbrev pub field_at : List ℕ → ℕ → ℕ
field_at b i = get_or b (fields_at + i) 0

-- its kind
abbrev pub kind_at : List ℕ → ℕ → ℕ
kind_at b i = get_or b (kinds_at + i) 0

-- all kinds, from that of entry 0 on
abbrev pub kinds_of : List ℕ → List ℕ
kinds_of b = drop kinds_at b

-- is it a listed path? A chain is none
abbrev pub is_path_at : List ℕ → ℕ → Bool
is_path_at b i = ltb (kind_at b i) chain_kind

-- is it one without a flag?
abbrev pub left_at : List ℕ → List Bool → ℕ → Bool
left_at b flags i = not (get_or flags i false) && is_path_at b i

-- that path
abbrev pub path_at_entry : List ℕ → ℕ → Rules.Term
path_at_entry b i = path (variable_at b i) (field_at b i)

-- what the kinds are
unfoldable pub permit_of : ℕ → Permit
permit_of k = cond (eqb k acc_kind) acc (cond (ltb k chain_kind) read chain)

abbrev pub permission_at : List ℕ → ℕ → Permission
permission_at b i = entry (permit_of (kind_at b i)) (variable_at b i) (field_at b i)

abbrev pub permissions_in : List ℕ → ℕ → List Permission
permissions_in b n = listed (permission_at b) n

-- how many facts, how many entries
abbrev pub facts : List ℕ → ℕ
facts b = get_or b fact_count 0

abbrev pub entries : List ℕ → ℕ
entries b = get_or b entry_count 0

-- how many slots are taken: those before the facts', and two for each fact
abbrev pub slots_in : List ℕ → ℕ
slots_in b = left_sides + 2 * facts b

abbrev pub facts_of : List ℕ → List ℕ → List Fact
facts_of key b = facts_in key b (facts b)

abbrev pub permissions_of : List ℕ → List Permission
permissions_of b = permissions_in b (entries b)

abbrev pub state_of : List ℕ → List ℕ → Rules.State
state_of key b = record { permissions = permissions_of b; facts = facts_of key b }

-- n facts: the labels decide ~
pub record Linked (key b : List ℕ) (n : ℕ) : Type 0 where
  pub header : Header key
  pub size : length b ≡ bytes
  pub fit : n ≤ most_facts
  pub decides : Decides (facts_in key b n) key b (left_sides + 2 * n)

-- the kind of a `read`, an `acc` or a chain
abbrev pub IsKind : ℕ → Type 0
IsKind k = (read_kind ≤ k) × (k ≤ chain_kind)

-- the kinds of the first n entries
abbrev pub KindsIn : List ℕ → ℕ → Type 0
KindsIn b n = (i : ℕ) → i < n → IsKind (kind_at b i)

pub record Wf (key b : List ℕ) : Type 0 where
  pub linked : Linked key b (facts b)
  pub fit : entries b ≤ most_permissions
  pub kinds : KindsIn b (entries b)
