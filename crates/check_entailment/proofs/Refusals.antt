-- Refusals, as they are handed on.
use mathlib.Core.Path.{◌≡◌, refl, ap}
use Prim.Native.Nat.{ℕ}
use Rattle.std.specs.Prelude.{Option, None, Result, Ok, Err}
use Rattle.std.specs.Option.{ok_or}
use Rattle.std.specs.Result.{IsErrAnd}
use Rattle.rules.specs.Base.{Try, ok, no, ◌>>=◌}
use Rattle.rules.specs.Answers.{Refusal}
use Rattle.rules.specs.State as Rules
use Rattle.rules.specs.State.{equal_in, resolve}
use Rattle.check_equality.specs.Keys.{term_of}
use Rattle.check_state.specs.Questions.{resolved_as}
use Rattle.check_entailment.specs.declared.Refusal as Declared
use Rattle.check_entailment.specs.declared.Refusal.TheVariants.{Unresolved}
use Rattle.check_entailment.specs.Answers.{refusal_of, sides_of, resolved_sides}

-- a `?` hands the refusal on as it is
pub passed-on : {A : Type 0} (r : Result A Declared.Refusal) (e : Declared.Refusal) → IsErrAnd r (λ d. d ≡ e) → r ≡ Err e
passed-on (Ok u) e p = absurd p
passed-on (Err d) e p = ap Err p

-- what does not resolve
pub lost : (o : Option ℕ) (e : Declared.Refusal) → ◌≡◌ {A = Result ℕ Declared.Refusal} (Err e) (ok_or o Unresolved) → o ≡ None → no (refusal_of e) ≡ resolved_as o
unfolding resolved_as refusal_of
lost o e v n = let d : ◌≡◌ {A = Result ℕ Declared.Refusal} (Err e) (Err Unresolved) = rw n at v in let f : e ≡ Unresolved = cc in rw (n, f)

module _ (s : Rules.State) (l r : Rules.Term) where
  pub left-lost : (e : Declared.Refusal) → no (refusal_of e) ≡ resolve (equal_in s) s.permissions l → sides_of (Err e) ≡ resolved_sides s l r
  unfolding sides_of resolved_sides ◌>>=◌
  left-lost e d = rw (← d)

  module _ (t : Rules.Term) (h : ok t ≡ resolve (equal_in s) s.permissions l) where
    pub right-lost : (e : Declared.Refusal) → no (refusal_of e) ≡ resolve (equal_in s) s.permissions r → sides_of (Err e) ≡ resolved_sides s l r
    unfolding sides_of resolved_sides ◌>>=◌
    right-lost e d = rw (← h, ← d)

  pub both-found : (t u : ℕ) → ok (term_of t) ≡ resolve (equal_in s) s.permissions l → ok (term_of u) ≡ resolve (equal_in s) s.permissions r → sides_of (Ok (t, u)) ≡ resolved_sides s l r
  unfolding sides_of resolved_sides ◌>>=◌
  both-found t u h d = rw (← h, ← d)

  -- what is done with the two
  pub by-sides : {A : Type 0} (f : Rules.Term → Rules.Term → Try Refusal A) → (resolve (equal_in s) s.permissions l >>= λ t. resolve (equal_in s) s.permissions r >>= λ u. f t u) ≡ (resolved_sides s l r >>= λ p. f p.0 p.1)
  unfolding resolved_sides ◌>>=◌
  by-sides f = go (resolve (equal_in s) s.permissions l) (resolve (equal_in s) s.permissions r)
    where
      pair : Rules.Term → Rules.Term → Try Refusal (Rules.Term × Rules.Term)
      pair t u = ok (t, u)

      go : (a b : Try Refusal Rules.Term) → (a >>= λ t. b >>= λ u. f t u) ≡ ((a >>= λ t. b >>= λ u. pair t u) >>= λ p. f p.0 p.1)
      go (ok t) (ok u) = refl
      go (ok t) (no e) = refl
      go (no e) b = refl
