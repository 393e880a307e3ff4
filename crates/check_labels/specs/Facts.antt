-- The facts by what becomes of their sides.
use Rattle.std.specs.Prelude.{◌≡◌, Bool, false, cond, List, [], ◌∷◌, ◌++◌, ℕ, ◌+◌, ◌*◌, ◌≤◌, ◌<◌, eqb, length, get_or}
use Rattle.std.proofs.Math.Option.{Option, none, some}
use Rattle.rules.specs.Limits.{most_permissions, most_facts}
use Rattle.rules.specs.State as Rules
use Rattle.rules.specs.State.{Renaming, rename_facts}
use Rattle.check_equality.specs.Layout.{left_sides, right_sides, relations_at, variables_at, fact_count, bytes}
use Rattle.check_equality.specs.Links.{Header, term_at, fact_of}
use Rattle.check_state.specs.States.{Wf, Linked, facts, entries, facts_in, facts_of, KindsIn}

-- the labels of the slots before the facts' are their own numbers
pub record Fresh (b b' : List ℕ) : Type 0 where
  pub size : length b' ≡ length b
  pub own : (i : ℕ) → i < left_sides → get_or b' i 0 ≡ i
  pub rest : (i : ℕ) → left_sides ≤ i → get_or b' i 0 ≡ get_or b i 0

-- one more fact, unless it is out; c is 1 for an inequality
pub record KeepsFact (key b : List ℕ) (n : ℕ) (out : Bool) (c l r : ℕ) (key' b' : List ℕ) (n' : ℕ) : Type 0 where
  pub few : n' ≤ n + 1
  pub linked : Linked key' b' n'
  pub facts : facts_in key' b' n' ≡ facts_in key b n ++ cond out [] (fact_of (eqb c 1) l r ∷ [])
  pub keys : (j : ℕ) → right_sides + 2 * n < j → get_or key' j 0 ≡ get_or key j 0
  pub rest : (j : ℕ) → relations_at + n < j → get_or b' j 0 ≡ get_or b j 0

-- what becomes of the side in slot j
abbrev pub become_of : List ℕ → List Bool → ℕ → Option Rules.Term
become_of key gone j = cond (get_or gone j false) none (some (term_at key j))

-- it is what ρ says of the term that stood there, for the sides of n facts
abbrev pub Stands : Renaming → List ℕ → List ℕ → List Bool → ℕ → Type 0
Stands ρ old key gone n = (j : ℕ) → left_sides ≤ j → j < left_sides + 2 * n → ρ (term_at old j) ≡ become_of key gone j

-- a state whose labels need not decide ~
pub record Sized (key b : List ℕ) : Type 0 where
  pub header : Header key
  pub size : length b ≡ bytes
  pub fit : facts b ≤ most_facts
  pub entries_fit : entries b ≤ most_permissions
  pub kinds : KindsIn b (entries b)

-- the facts by what becomes of their sides; the entries stay
pub record Rebuilt (key b : List ℕ) (gone : List Bool) (key' b' : List ℕ) : Type 0 where
  pub wf : Wf key' b'
  pub facts : (ρ : Renaming) (old : List ℕ) → Stands ρ old key gone (facts b) → facts_of key' b' ≡ rename_facts ρ (facts_of old b)
  pub rest : (i : ℕ) → variables_at ≤ i → (i ≡ fact_count → ⊥) → get_or b' i 0 ≡ get_or b i 0
