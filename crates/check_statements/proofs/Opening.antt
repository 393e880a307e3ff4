-- `open` and `shut`, step by step.
use mathlib.Core.Path.{◌≡◌, refl, sym, ap, ◌∙◌}
use mathlib.Core.List.{List}
use Rattle.std.specs.Prelude.{Result, Ok, Err}
use mathlib.Core.Option.{Option, none, some}
use Prim.Native.Nat.{ℕ}
use Rattle.rules.specs.Base.{ok, no, ◌>>=◌, or_else, first}
use Rattle.rules.specs.Limits.{most_permissions}
use Rattle.rules.specs.Answers.{unresolved, no_permission}
use Rattle.rules.specs.Syntax.{var, path, acc, chain}
use Rattle.rules.specs.State as Rules
use Rattle.rules.specs.State.{Permission, entry, equal_in, names, path_of, take_own}
use Rattle.rules.specs.Rules.{open_rule, shut_rule}
use Rattle.rules.proofs.Tries.{no_ok, ok-inj}
use Rattle.check_equality.specs.Layout.{acc_kind, chain_kind}
use Rattle.check_state.specs.States.{Wf, state_of, kind_at, permit_of, permissions_of}
use Rattle.check_state.specs.Questions.{Bytes}
use Rattle.check_entries.specs.Entries.{left_of}
use Rattle.check_entailment.specs.declared.Refusal as Declared
use Rattle.check_entailment.specs.declared.Refusal.TheVariants.{NoPermission}
use Rattle.check_entailment.specs.Answers.{Answer, refusal_of, answered, Takes, Adds}
use Rattle.check_forgetting.specs.Changes.{Becomes}
use Rattle.check_formulas.proofs.Atoms.{start_left}
use Rattle.check_statements.specs.Statements.{Says, object_shown, add_opened, open_shown, shut_path}
use Rattle.check_statements.proofs.Ruled.{adds_same, adds-no, after-done, after-refused, null-stops, object-passes}

-- the chain of t is taken from all entries
module _ (key b : List ℕ) (w : Wf key b) (kinds : List ℕ) (B : Bytes (kind_at b) most_permissions kinds) (t : Rules.Term) (f : ℕ) (left : List ℕ) where
  taken : (k : Answer) → Takes key b kinds chain_kind t f k left → answered k (left_of b left) ≡ take_own (equal_in (state_of key b)) chain t f (permissions_of b)
  unfolding permit_of
  taken k T = T ∙ rw (start_left key b kinds w B)

  -- OPEN
  module _ (y x : ℕ) (e : t ≡ var x) where
    pub open-refused : (r : Declared.Refusal) → Takes key b kinds chain_kind t f (Err r) left → Adds (open_shown y x f (state_of key b)) (Err r) key b
    unfolding open_shown
    open-refused r T = adds-no (Err r) key b w _ (after-refused _ (left_of b left) _ r (taken (Err r) T ∙ rw e) (state_of key b))

    pub open_done :
        Takes key b kinds chain_kind t f (Ok tt) left → (key₁ b₁ key₂ b₂ : List ℕ) → Becomes (Rules.remainder (state_of key b) (left_of b left)) key₁ b₁ →
        Becomes (Rules.remove y (state_of key₁ b₁)) key₂ b₂ → (r : Answer) (key₃ b₃ : List ℕ) → Adds (add_opened y x f (state_of key₂ b₂)) r key₃ b₃ →
        Adds (open_shown y x f (state_of key b)) r key₃ b₃
    unfolding open_shown
    open_done T key₁ b₁ key₂ b₂ R Q r key₃ b₃ A =
        adds_same _ _ r key₃ b₃ (sym (after-done _ (left_of b left) _ (taken (Ok tt) T ∙ rw e) ∙ rw (← R.same, ← Q.same))) A

  -- SHUT
  module _ (x : ℕ) where
    pub shut-first : (r : Declared.Refusal) → Takes key b kinds chain_kind t f (Err r) left → Adds (shut_path x f t (state_of key b)) (Err r) key b
    unfolding shut_path
    shut-first r T = adds-no (Err r) key b w _ (after-refused _ (left_of b left) _ r (taken (Err r) T) (state_of key b))

    module _ (T : Takes key b kinds chain_kind t f (Ok tt) left) (u : Rules.Term) (e : u ≡ var x) (left' : List ℕ) where
      whole : (l : Answer) → Takes key b left acc_kind u f l left' → answered l (left_of b left') ≡ take_own (equal_in (state_of key b)) acc (var x) f (left_of b left)
      unfolding permit_of
      whole l U = U ∙ rw e

      pub shut-second : (r : Declared.Refusal) → Takes key b left acc_kind u f (Err r) left' → Adds (shut_path x f t (state_of key b)) (Err r) key b
      unfolding shut_path
      shut-second r U =
          adds-no (Err r) key b w _ (after-done _ (left_of b left) _ (taken (Ok tt) T) ∙ after-refused _ (left_of b left') _ r (whole (Err r) U) (state_of key b))

      pub shut-done :
          Takes key b left acc_kind u f (Ok tt) left' → (key₁ b₁ : List ℕ) → Becomes (Rules.remainder (state_of key b) (left_of b left')) key₁ b₁ → (r : Answer) (key₂ b₂ : List ℕ) →
          Adds (Rules.add_permission (entry (permit_of chain_kind) x f) (state_of key₁ b₁)) r key₂ b₂ → Adds (shut_path x f t (state_of key b)) r key₂ b₂
      unfolding shut_path permit_of
      shut-done U key₁ b₁ R r key₂ b₂ A =
          adds_same _ _ r key₂ b₂
          (sym (after-done _ (left_of b left) _ (taken (Ok tt) T) ∙ after-done _ (left_of b left') _ (whole (Ok tt) U) ∙ rw (← R.same))) A

-- x ≠ null
pub open-null :
    (y x f : ℕ) (key b : List ℕ) → Wf key b → (r : Declared.Refusal) → Says (object_shown x (state_of key b)) (Err r) → Adds (open_rule y x f (state_of key b)) (Err r) key b
unfolding open_rule object_shown
open-null y x f key b W r S = adds-no (Err r) key b W _ (null-stops x (state_of key b) _ r S (state_of key b))

pub open-object : (y x f : ℕ) (s : Rules.State) → Says (object_shown x s) (Ok tt) → open_shown y x f s ≡ open_rule y x f s
unfolding open_rule open_shown add_opened object_shown
open-object y x f s S = sym (object-passes x s _ S)

-- what `x.f` resolves to
pub shut-lost :
    (x f : ℕ) (key b : List ℕ) → Wf key b → (r : Declared.Refusal) → ◌≡◌ {A = Result ℕ Declared.Refusal} (Err r) (Err NoPermission) →
    no unresolved ≡ Rules.resolve (equal_in (state_of key b)) (permissions_of b) (path x f) → Adds (shut_rule x f (state_of key b)) (Err r) key b
unfolding Rules.resolve shut_rule shut_path or_else ◌>>=◌ answered refusal_of
shut-lost x f key b w r d e =
    let g : r ≡ NoPermission = cc in adds-no (Err r) key b w _ (rw g (go (first (names (equal_in (state_of key b)) x f) (permissions_of b)) (sym e)))
  where
    go :
        (o : Option Permission) → (or_else o unresolved >>= λ p. ok (path_of p)) ≡ no unresolved →
        (or_else o no_permission >>= λ p. shut_path x f (path_of p) (state_of key b)) ≡ no no_permission
    go none d = refl
    go (some p) d = no_ok (sym d)

module _ (x f : ℕ) (s : Rules.State) where
  pub shut-found : (t : Rules.Term) → Rules.resolve (equal_in s) s.permissions (path x f) ≡ ok t → shut_path x f t s ≡ shut_rule x f s
  unfolding Rules.resolve shut_rule shut_path or_else ◌>>=◌
  shut-found t e = go (first (names (equal_in s) x f) s.permissions) e
    where
      go :
          (o : Option Permission) → (or_else o unresolved >>= λ p. ok (path_of p)) ≡ ok t →
          shut_path x f t s ≡ (or_else o no_permission >>= λ p. shut_path x f (path_of p) s)
      go none d = no_ok d
      go (some p) d = ap (λ (u : Rules.Term). shut_path x f u s) (sym (ok-inj d))
