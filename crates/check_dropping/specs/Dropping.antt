-- What becomes of the sides of the facts where terms are dropped or renamed, and the facts then.
use Rattle.std.specs.Prelude.{◌≡◌, Bool, false, cond, List, ℕ, ◌+◌, ◌*◌, ◌≤◌, ◌<◌, length, get_or}
use Rattle.std.proofs.Math.Option.{Option, none, some}
use Rattle.rules.specs.State as Rules
use Rattle.rules.specs.State.{Permission, Renaming, rename_facts, becomes, equal_in}
use Rattle.check_equality.specs.Layout.{slots, left_sides, variables_at, fact_count, null_slot}
use Rattle.check_equality.specs.Keys.{term_of}
use Rattle.check_equality.specs.Links.{Header, term_at}
use Rattle.check_state.specs.States.{Wf, state_of, facts, facts_of}
use Rattle.check_state.specs.Questions.{no_variable}
use Rattle.check_successors.specs.Successors.{Drops}
use Rattle.check_entries.specs.PathsOut.{key_dropped}
use Rattle.check_labels.specs.Facts.{Stands, become_of}

-- GIVING WAY
-- t becomes of the side in slot j, and nothing else changes
pub record Stored (j : ℕ) (t : Option Rules.Term) (key : List ℕ) (gone : List Bool) (key' : List ℕ) (gone' : List Bool) : Type 0 where
  pub header : Header key'
  pub size : length gone' ≡ slots
  pub here : become_of key' gone' j ≡ t
  pub keys : (i : ℕ) → (i ≡ j → ⊥) → get_or key' i 0 ≡ get_or key i 0
  pub flags : (i : ℕ) → (i ≡ j → ⊥) → get_or gone' i false ≡ get_or gone i false

-- the slot j is a side's
abbrev pub IsSide : List ℕ → ℕ → Type 0
IsSide b j = (left_sides ≤ j) × (j < left_sides + 2 * facts b)

-- the successor of the side in slot j
abbrev pub successor_at : List ℕ → List ℕ → Renaming → List Permission → ℕ → Option Rules.Term
successor_at key b ρ ps j = Rules.successor (equal_in (state_of key b)) ρ ps (facts_of key b) (term_at key j)

-- what becomes of the side in slot j, where `gone` has the flags of those that are dropped
abbrev pub given_at : List ℕ → List ℕ → Renaming → List Permission → List Bool → ℕ → Option Rules.Term
given_at key b ρ ps gone j =
    cond (get_or gone j false) (successor_at key b ρ ps j) (some (term_at key j))

-- the side in slot i, before j, with the label a, has given way
pub record Lead (old b : List ℕ) (skip : List Bool) (x j : ℕ) (key : List ℕ) (gone : List Bool) (a i : ℕ) : Type 0 where
  pub within : i < j
  pub label : get_or b i 0 ≡ a
  pub is : (ρ : Renaming) (ps : List Permission) → Drops ρ ps b skip x → become_of key gone i ≡ successor_at old b ρ ps i

-- how far giving way is, at slot j: `lead` has for each label the first side that has given way, or 0
pub record Giving (old b : List ℕ) (skip : List Bool) (x j : ℕ) (key : List ℕ) (gone : List Bool) (lead : List ℕ) : Type 0 where
  pub header : Header key
  pub size : length gone ≡ slots
  pub leads_size : length lead ≡ slots
  pub leads : (a : ℕ) → (get_or lead a 0 ≡ 0 → ⊥) → Lead old b skip x j key gone a (get_or lead a 0)

-- that becomes of the side in slot j of the arrays old and b
pub record SideGiven (old b : List ℕ) (skip : List Bool) (x j : ℕ) (key : List ℕ) (gone : List Bool) (key' : List ℕ) (gone' : List Bool) (lead' : List ℕ) : Type 0 where
  pub next : Giving old b skip x (j + 1) key' gone' lead'
  pub here : (ρ : Renaming) (ps : List Permission) → Drops ρ ps b skip x → become_of key' gone' j ≡ given_at old b ρ ps gone j
  pub keys : (i : ℕ) → (i ≡ j → ⊥) → get_or key' i 0 ≡ get_or key i 0
  pub flags : (i : ℕ) → (i ≡ j → ⊥) → get_or gone' i false ≡ get_or gone i false

-- what becomes of every side; those of the facts before `from` stay
pub record GaveWay (key b : List ℕ) (skip : List Bool) (x : ℕ) (gone : List Bool) (from : ℕ) (key' : List ℕ) (gone' : List Bool) : Type 0 where
  pub header : Header key'
  pub keys : (j : ℕ) → j < left_sides + 2 * from → get_or key' j 0 ≡ get_or key j 0
  pub flags : (j : ℕ) → j < left_sides + 2 * from → get_or gone' j false ≡ get_or gone j false
  pub at :
      (ρ : Renaming) (ps : List Permission) → Drops ρ ps b skip x → (j : ℕ) → left_sides ≤ j → j < left_sides + 2 * facts b →
      become_of key' gone' j ≡ given_at key b ρ ps gone j

-- some ρ drops the sides with a flag, and nothing else changes
pub record Dropping (key b : List ℕ) (skip : List Bool) (x : ℕ) (gone : List Bool) : Type 0 where
  pub ρ : Renaming
  pub ps : List Permission
  pub plain : (t u : Rules.Term) → ρ t ≡ some u → t ≡ u
  pub drops : Drops ρ ps b skip x
  pub stands : Stands ρ key key gone (facts b)

-- the facts, where ρ drops the sides with a flag; the entries stay
pub record Forgotten (key b : List ℕ) (skip : List Bool) (x : ℕ) (gone : List Bool) (key' b' : List ℕ) : Type 0 where
  pub wf : Wf key' b'
  pub facts :
      (ρ : Renaming) (ps : List Permission) → Drops ρ ps b skip x → Stands ρ key key gone (facts b) →
      facts_of key' b' ≡ rename_facts (becomes (state_of key b) ρ ps) (facts_of key b)
  pub rest : (i : ℕ) → variables_at ≤ i → (i ≡ fact_count → ⊥) → get_or b' i 0 ≡ get_or b i 0

-- ρ drops the sides whose keys pass
abbrev pub DropsSides : (ℕ → Bool) → Renaming → List ℕ → List ℕ → Type 0
DropsSides test ρ key b =
    (j : ℕ) → left_sides ≤ j → j < left_sides + 2 * facts b → ρ (term_at key j) ≡ cond (test (get_or key j 0)) none (some (term_at key j))

-- some ρ drops the sides whose keys pass, and renames nothing
pub record Forgettable (test : ℕ → Bool) (key b : List ℕ) (skip : List Bool) (x : ℕ) : Type 0 where
  pub ρ : Renaming
  pub ps : List Permission
  pub plain : (t u : Rules.Term) → ρ t ≡ some u → t ≡ u
  pub drops : Drops ρ ps b skip x
  pub sides : DropsSides test ρ key b

-- some ρ drops the paths of the entries that are out, but for names still listed
abbrev pub PathsForgettable : List ℕ → List ℕ → List Bool → Type 0
PathsForgettable key b out = Forgettable (key_dropped b out) key b out no_variable

-- the facts then; the entries stay
pub record Forgot (test : ℕ → Bool) (key b : List ℕ) (skip : List Bool) (x : ℕ) (key' b' : List ℕ) : Type 0 where
  pub wf : Wf key' b'
  pub facts :
      (ρ : Renaming) (ps : List Permission) → Drops ρ ps b skip x → DropsSides test ρ key b →
      facts_of key' b' ≡ rename_facts (becomes (state_of key b) ρ ps) (facts_of key b)
  pub rest : (i : ℕ) → variables_at ≤ i → (i ≡ fact_count → ⊥) → get_or b' i 0 ≡ get_or b i 0

-- the facts with each key by a map
pub record Renamed (map : ℕ → ℕ) (key b key' b' : List ℕ) : Type 0 where
  pub wf : Wf key' b'
  pub facts : (ρ : Renaming) → ((k : ℕ) → ρ (term_of k) ≡ some (term_of (map k))) → facts_of key' b' ≡ rename_facts ρ (facts_of key b)
  pub rest : (i : ℕ) → variables_at ≤ i → (i ≡ fact_count → ⊥) → get_or b' i 0 ≡ get_or b i 0

-- `to` is another variable with the label of x
pub record StandsIn (b : List ℕ) (x to : ℕ) : Type 0 where
  pub other : x ≡ to → ⊥
  pub variable : x < null_slot
  pub name : to < null_slot
  pub label : get_or b x 0 ≡ get_or b to 0
