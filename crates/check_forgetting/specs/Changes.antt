-- What goes from a state, and what is renamed in it.
use Rattle.std.specs.Prelude.{◌≡◌, Bool, List, [], ◌∷◌, ℕ, ◌≤◌, get_or}
use Rattle.rules.specs.State as Rules
use Rattle.rules.specs.State.{Permission, unlisted}
use Rattle.check_equality.specs.Layout.{variables_at, fact_count}
use Rattle.check_state.specs.States.{Wf, state_of, entries, facts_of, permissions_of, permission_at}
use Rattle.check_entries.specs.Entries.{kept}

-- the arrays then hold the state
pub record Becomes (t : Rules.State) (key b : List ℕ) : Type 0 where
  pub wf : Wf key b
  pub same : state_of key b ≡ t

-- the entries that are not out
abbrev pub kept_of : List ℕ → List Bool → List Permission
kept_of b out = kept out (permission_at b) (entries b)

-- the entries whose paths are dropped: no other entry has them
abbrev pub dropped_of : List ℕ → List Bool → List Permission
dropped_of b out = unlisted (kept_of b out) (permissions_of b)

-- the facts where the paths of the entries that are out are dropped; the entries stay
pub record ForgotOut (key b : List ℕ) (out : List Bool) (key' b' : List ℕ) : Type 0 where
  pub wf : Wf key' b'
  pub facts : facts_of key' b' ≡ Rules.facts_without (dropped_of b out) (kept_of b out) (state_of key b)
  pub rest : (i : ℕ) → variables_at ≤ i → (i ≡ fact_count → ⊥) → get_or b' i 0 ≡ get_or b i 0

abbrev pub without_path : List ℕ → List ℕ → ℕ → Rules.State
without_path key b i = Rules.drop_paths (permission_at b i ∷ []) (permissions_of b) (state_of key b)
