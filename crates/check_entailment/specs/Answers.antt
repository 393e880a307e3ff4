-- What showing and adding answer and leave.
use Rattle.std.specs.Prelude.{◌≡◌, Bool, cond, List, [], ◌∷◌, ℕ, ltb, Result, Ok, Err}
use Rattle.rules.specs.Base.{Try, ok, no, ◌>>=◌}
use Rattle.rules.specs.Answers.{Refusal, unresolved, no_permission, not_shown, state_full, malformed}
use Rattle.rules.specs.Syntax as Syntax
use Rattle.rules.specs.Syntax.{cmp}
use Rattle.rules.specs.State as Rules
use Rattle.rules.specs.State.{Permission, equal_in, take_own, show_from, resolve}
use Rattle.check_equality.specs.Keys.{term_of}
use Rattle.check_equality.specs.Layout.{acc_kind}
use Rattle.check_equality.specs.Links.{rel_of}
use Rattle.check_state.specs.States.{Wf, state_of, permit_of}
use Rattle.check_entries.specs.Entries.{left_of}
use Rattle.check_entailment.specs.declared.Refusal as Declared

-- done, or why not
abbrev pub Answer : Type 0
Answer = Result (Unit {0}) Declared.Refusal

-- the row of document 01's table that a refusal is
unfoldable pub refusal_of : Declared.Refusal → Refusal
refusal_of Declared.Refusal.Unresolved = unresolved
refusal_of Declared.Refusal.NoPermission = no_permission
refusal_of Declared.Refusal.NotShown = not_shown
refusal_of Declared.Refusal.Full = state_full
refusal_of Declared.Refusal.Malformed = malformed

-- the refusal that an answer is, or what comes with it
unfoldable pub answered : {A : Type 0} → Answer → A → Try Refusal A
answered (Ok u) x = ok x
answered (Err e) x = no (refusal_of e)

-- the arrays then hold the state, or an answer says why there is none
pub record Adds (t : Try Refusal Rules.State) (answer : Answer) (key b : List ℕ) : Type 0 where
  pub wf : Wf key b
  pub same : answered answer (state_of key b) ≡ t

-- SHOWING
-- the greatest kind that serves where this one is wanted
unfoldable pub most_serving : ℕ → ℕ
most_serving want = cond (ltb want acc_kind) acc_kind want

-- an atom of the kind `want` by f of t is taken from what is left of the entries, and what is left of them then
abbrev pub Takes : List ℕ → List ℕ → List ℕ → ℕ → Rules.Term → ℕ → Answer → List ℕ → Type 0
Takes key b left want t f answer left' =
    answered answer (left_of b left') ≡ take_own (equal_in (state_of key b)) (permit_of want) t f (left_of b left)

-- one atom shown by what is left of the entries, and what is left of them then
abbrev pub ShowsAtom : List ℕ → List ℕ → List ℕ → Syntax.Atom ℕ → Answer → List ℕ → Type 0
ShowsAtom key b left a answer left' =
    answered answer (left_of b left') ≡ show_from (equal_in (state_of key b)) (state_of key b) (a ∷ []) (left_of b left)

-- two terms by their keys, or the refusal
unfoldable pub sides_of : Result (ℕ × ℕ) Declared.Refusal → Try Refusal (Rules.Term × Rules.Term)
sides_of (Ok (t, u)) = ok (term_of t, term_of u)
sides_of (Err e) = no (refusal_of e)

-- what two sides resolve to
unfoldable pub resolved_sides : Rules.State → Rules.Term → Rules.Term → Try Refusal (Rules.Term × Rules.Term)
resolved_sides s l r = resolve (equal_in s) s.permissions l >>= λ t. resolve (equal_in s) s.permissions r >>= λ u. ok (t, u)

-- an `eq` or a `ne`, which takes nothing
abbrev pub ShowsRelation : List ℕ → List ℕ → Bool → Rules.Term → Rules.Term → Answer → Type 0
ShowsRelation key b apart l r answer =
    (kept : List Permission) → answered answer kept ≡ show_from (equal_in (state_of key b)) (state_of key b) (cmp (rel_of apart) l r ∷ []) kept

-- ADDING
-- one atom
abbrev pub AddsAtom : List ℕ → List ℕ → Syntax.Atom ℕ → Answer → List ℕ → List ℕ → Type 0
AddsAtom key b a answer key' b' = Adds (Rules.add (a ∷ []) (state_of key b)) answer key' b'
