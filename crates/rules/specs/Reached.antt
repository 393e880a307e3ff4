-- The states that the check of a program comes to, row by row; and W3's sentence on what is dropped, of each of them, for every text
-- that is read. The crate `soundness` proves it.
use Rattle.std.specs.Prelude.{◌≡◌, List, [], ◌∷◌, ◌↔◌, ℕ, suc, T}
use Rattle.std.proofs.Math.Option.{none, some}
use Rattle.rules.specs.Base.{ok, Member}
use Rattle.rules.specs.Answers.{accepted}
use Rattle.rules.specs.Syntax.{Rel, Formula, Simple, Stmt, Program, row_numbered, method_numbered, num, null, var, path, simple, return, if, else, join, loop, again}
use Rattle.rules.specs.Items.{Item}
use Rattle.rules.specs.Reading.{read_text, program}
use Rattle.rules.specs.State.{Term, Permission, State, empty, path_of, equal_in, variables, terms_of, lists, drop_paths, remainder, rename_term, stand_in, remove, add}
use Rattle.rules.specs.Rules.{End, Open, in_first, in_second, in_loop, rule, return_rule, if_rule, loop_rule, join_rule, show_end}

-- WHERE A CHECK COMES TO

module _ (P : Program) where
  -- One row of a block with the ensures φ leads from what is known before it, and the branches and loops that are open, to what is known
  -- after it: as `check_row` goes on.
  pub data Leads (φ : Formula ℕ) : Stmt → End → List Open → End → List Open → Type 0 where
    by_rule : {p : Simple} {s s' : State} {os : List Open} → rule P p s ≡ ok s' → Leads φ (simple p) (some s) os (some s') os
    by_return : {x : ℕ} {s : State} {os : List Open} → return_rule x φ s ≡ ok tt → Leads φ (return x) (some s) os none os
    by_if :
        {n : Rel} {a b : Term} {s : State} {c : State × State} {os : List Open} → if_rule n a b s ≡ ok c →
        Leads φ (if n a b) (some s) os (some c.0) (in_first c.1 ∷ os)
    by_else : {e : End} {s : State} {os : List Open} → Leads φ else e (in_first s ∷ os) (some s) (in_second e ∷ os)
    by_join :
        {ψ : Formula ℕ} {e e₁ : End} {s : State} {os : List Open} → join_rule ψ e₁ e ≡ ok s →
        Leads φ (join ψ) e (in_second e₁ ∷ os) (some s) os
    by_loop :
        {n : Rel} {a b : Term} {ψ : Formula ℕ} {s : State} {c : State × State} {os : List Open} → loop_rule n a b ψ s ≡ ok c →
        Leads φ (loop n a b ψ) (some s) os (some c.0) (in_loop ψ c.1 ∷ os)
    by_again :
        {ψ : Formula ℕ} {e : End} {s : State} {os : List Open} → show_end ψ e ≡ ok tt → Leads φ again e (in_loop ψ s ∷ os) (some s) os

  -- The check comes to row i of a block with the ensures φ: "A method starts with its requires", "Main starts empty", and from row to row.
  pub data Comes : Formula ℕ → ℕ → End → List Open → Type 0 where
    at_method :
        (n : ℕ) {s : State} → add (method_numbered P n).requires empty ≡ ok s →
        Comes (method_numbered P n).ensures (method_numbered P n).first (some s) []
    at_main : Comes [] P.main (some empty) []
    by_row :
        {φ : Formula ℕ} {i : ℕ} {e e' : End} {os os' : List Open} → Comes φ i e os → Leads φ (row_numbered P i).stmt e os e' os' →
        Comes φ (suc i) e' os'

-- WHAT IS LEFT

-- a term "over variables, constants and listed paths"
abbrev pub Known : List Permission → Term → Type 0
Known ps (num n) = Unit {0}
Known ps null = Unit {0}
Known ps (var v) = Member v variables
Known ps (path v f) = T (lists ps (path v f))

-- "a list of equalities and inequalities over variables, constants and listed paths"
abbrev pub Formed : State → Type 0
Formed s = (t : Term) → Member t (terms_of s.facts) → Known s.permissions t

-- W3: "When paths or a variable are dropped, two terms that are left shall be ~ exactly if they were ~ before."
pub record DropsKeep (s : State) : Type 0 where
  -- where a formula was shown and this is left of the entries
  pub at_remainder :
      (kept : List Permission) (a b : Term) → Known kept a → Known kept b → T (equal_in (remainder s kept) a b) ↔ T (equal_in s a b)
  -- at `set`, "the old value of the path counts as dropped"
  pub at_set :
      (p : Permission) (a b : Term) → (path_of p ≡ a → ⊥) → (path_of p ≡ b → ⊥) →
      T (equal_in (drop_paths (p ∷ []) s.permissions s) a b) ↔ T (equal_in s a b)
  -- where x is removed, and no variable takes its place
  pub at_removing :
      (x : ℕ) → stand_in s x ≡ none → (a b : Term) → rename_term x none a ≡ some a → rename_term x none b ≡ some b →
      T (equal_in (remove x s) a b) ↔ T (equal_in s a b)

-- Of every text that is read, accepted or not: each state that its check comes to is what the paper says, and so is what a formula leaves
-- of it; and what is dropped from either keeps ~ among the terms that are left.
abbrev pub DroppingKeeps : Type 0
DroppingKeeps =
    (t : List ℕ) (items : List Item) → read_text t ≡ accepted items → (φ : Formula ℕ) (i : ℕ) (s : State) (os : List Open) →
    Comes (program items) φ i (some s) os →
    Formed s × DropsKeep s × ((kept : List Permission) → Formed (remainder s kept) × DropsKeep (remainder s kept))
