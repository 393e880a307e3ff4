-- What the rules of statements answer.
use Rattle.std.specs.Prelude.{◌≡◌, Bool, cond, not, List, [], ◌∷◌, map, ℕ, ◌-◌, eqb}
use Rattle.std.proofs.Math.Option.{Option, none, some}
use Rattle.rules.specs.Base.{Try, ok, ◌>>=◌, check}
use Rattle.rules.specs.Answers.{Refusal, not_shown}
use Rattle.rules.specs.Syntax.{Formula, Rel, Method, same, eq, ne, num, null, var, path, acc, chain, cmp}
use Rattle.rules.specs.Rules.{End, add_equal, actual, subst_atom, show_end, join_rule}
use Rattle.rules.specs.State as Rules
use Rattle.rules.specs.State.{entry, equal_in, holds_in}
use Rattle.tables.specs.Decode.{left_at, right_at, atoms_from}
use Rattle.check_state.specs.States.{Wf, state_of}
use Rattle.check_entailment.specs.Answers.{Answer, answered, Adds}

-- the arrays then hold the states of two branches, or an answer says why there are none
pub record Parts (t : Try Refusal (Rules.State × Rules.State)) (answer : Answer) (key b key2 b2 : List ℕ) : Type 0 where
  pub first : Wf key b
  pub second : Wf key2 b2
  pub same : answered answer (state_of key b, state_of key2 b2) ≡ t

-- an answer that leaves no state
abbrev pub Says : Try Refusal (Unit {0}) → Answer → Type 0
Says t answer = answered answer tt ≡ t

-- a formula shown by a state
abbrev pub Asserts : Formula ℕ → Rules.State → Answer → Type 0
Asserts φ s answer = Says (show_end φ (some s)) answer

-- the end of a part or a block: a state, or none after a `return`
abbrev pub end_of : Bool → Rules.State → End
end_of returned s = cond returned none (some s)

-- `join` of the ends of the two parts, by whether a part returned and the state that its arrays hold
abbrev pub JoinGives : Formula ℕ → Bool → List ℕ → List ℕ → Bool → List ℕ → List ℕ → Answer → List ℕ → List ℕ → Type 0
JoinGives φ returned key b returned2 key2 b2 answer key' b' =
    Adds (join_rule φ (end_of returned (state_of key b)) (end_of returned2 (state_of key2 b2))) answer key' b'

-- e shows the formula, and then that and a relation is all that is known: what the state is after a `loop` and after its `again`
unfoldable pub only_known : Rel → Rules.Term → Rules.Term → Formula ℕ → End → Try Refusal Rules.State
only_known n a b φ e = show_end φ e >>= λ u. Rules.add φ Rules.empty >>= λ s. Rules.add (cmp n a b ∷ []) s

-- of a loop whose invariant is n atoms from the atom a on, and whose condition is the atom before: the condition's sides and the invariant
abbrev pub loop_known : List ℕ → ℕ → ℕ → Rel → End → Try Refusal Rules.State
loop_known w a n m e = only_known m (left_at w (a - 1)) (right_at w (a - 1)) (atoms_from w a n) e

-- `let x e`, where e resolves to r
unfoldable pub assign_term : ℕ → Rules.Term → Rules.State → Try Refusal Rules.State
assign_term x r s =
    let to : Option ℕ = Rules.stand_in s x in
    cond (same r (var x)) (ok s) (add_equal x (Rules.removed_term x to s r) (Rules.remove_to x to s))

-- y ≠ null is shown
unfoldable pub object_shown : ℕ → Rules.State → Try Refusal (Unit {0})
object_shown y s = check (holds_in (equal_in s) s ne (var y) null) not_shown

-- `call`, where y ≠ null is shown
unfoldable pub call_shown : ℕ → ℕ → Method → ℕ → Rules.State → Try Refusal Rules.State
call_shown x y M z s = do
  r ← Rules.show s (map (subst_atom (actual y z x)) M.requires)
  Rules.add (map (subst_atom (actual y z x)) M.ensures) (Rules.remove x (Rules.remainder s r))

-- what `open` adds: `x.f`, `x.f` = y, and the chain of y
unfoldable pub add_opened : ℕ → ℕ → ℕ → Rules.State → Try Refusal Rules.State
add_opened y x f s = do
  s₁ ← Rules.add_permission (entry acc x f) s
  s₂ ← Rules.add_fact eq (path x f) (var y) s₁
  Rules.add_permission (entry chain y f) s₂

-- `open y x f`, where x ≠ null is shown
unfoldable pub open_shown : ℕ → ℕ → ℕ → Rules.State → Try Refusal Rules.State
open_shown y x f s = do
  r ← Rules.take_own (Rules.equal_in s) chain (var x) f s.permissions
  add_opened y x f (Rules.remove y (Rules.remainder s r))

-- `shut x f`, where `x.f` resolves to t
unfoldable pub shut_path : ℕ → ℕ → Rules.Term → Rules.State → Try Refusal Rules.State
shut_path x f t s = do
  r ← Rules.take_own (Rules.equal_in s) chain t f s.permissions
  r' ← Rules.take_own (Rules.equal_in s) acc (var x) f r
  Rules.add_permission (entry chain x f) (Rules.remainder s r')

-- a field's first value, by its kind
unfoldable pub initial_of : ℕ → Rules.Term
initial_of k = cond (not (eqb k 0)) (num 0) null

unfoldable pub release_rule : Formula ℕ → Rules.State → Try Refusal Rules.State
release_rule φ s = Rules.show s φ >>= λ r. ok (Rules.remainder s r)
