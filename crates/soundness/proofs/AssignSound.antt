-- `let`, `add` and `sub`: the checker's state after one is satisfied after the machine's step.
use mathlib.Core.Path.{◌≡◌, refl, sym, ap, ◌∙◌, subst}
use mathlib.Core.Bool.{Bool, true, false, cond}
use mathlib.Core.Logic.{◌⊎◌, inl, inr}
use mathlib.Core.Option.{Option, none, some}
use Prim.Native.Nat.{ℕ, ◌≤◌, ◌%◌}
use native.Mathlib.Omega.{arith}
use native.Mathlib.Nat.{le_refl}
use mathlib.Core.List.{List}
use lib.Dec.{T}
use Rattle.rules.specs.Base.{ok, check, ◌>>◌, ◌>>=◌}
use Rattle.rules.specs.Answers.{overflow}
use Rattle.rules.specs.Syntax.{Operation, eq, var, same, this_variable, parameter, first_local, words}
use Rattle.rules.specs.State.{Term, State, equal_in, resolve, stand_in, remove_to, remove, removed_term}
use Rattle.rules.specs.Rules.{add_equal, assign_rule}
use Rattle.rules.specs.Machine.{Config, Frame, Heap, Location, halves, value_of, value, bind, advance, jump, with_frame, assign_step, raised, in_range, computed, compute_step}
use Rattle.rules.proofs.Lists.{decide_eq}
use Rattle.rules.proofs.Tries.{bind_ok, ok-inj, bind-of-ok}
use Rattle.rules.proofs.Closure.{same→≡}
use Rattle.soundness.proofs.Satisfied.{term_value, Reads, Satisfied, satisfied-frame}
use Rattle.soundness.proofs.ShowSound.{resolve-listed, resolve-reads}
use Rattle.soundness.proofs.RemoveSound.{bound-same, bound-other, bound-held, remove-sound, removed-term}
use Rattle.soundness.proofs.AddSound.{fact-satisfied}
use Rattle.soundness.proofs.Stack.{SameCall, Goes}

module _ (h : Heap) (F : Frame) (s : State) (S : Satisfied h F s) (x : ℕ) where
  -- x gets the value that it has
  bound-again : (v : ℕ) → v ≡ value_of F x → (y : ℕ) → value_of (bind x v F) y ≡ value_of F y
  bound-again v e y = go (decide_eq x y)
    where
      go : (x ≡ y) ⊎ (x ≡ y → ⊥) → value_of (bind x v F) y ≡ value_of F y
      go (inl d) = ap (value_of (bind x v F)) (sym d) ∙ (bound-same F x v ∙ (e ∙ ap (value_of F) d))
      go (inr n) = bound-other F x v y n

  equal-added :
      (r : Term) (s' : State) → Reads s.permissions r → add_equal x (removed_term x (stand_in s x) s r) (remove x s) ≡ ok s' →
      Satisfied h (bind x (term_value h F r) F) s'
  unfolding add_equal term_value
  equal-added r s' l e = go (removed_term x (stand_in s x) s r) refl e
    where
      go :
          (o : Option Term) → removed_term x (stand_in s x) s r ≡ o → add_equal x o (remove x s) ≡ ok s' →
          Satisfied h (bind x (term_value h F r) F) s'
      go none m a = subst (Satisfied h _) (ok-inj a) (remove-sound h F s S x (term_value h F r))
      go (some t) m a =
          let (reads, value) = removed-term h F s S x (term_value h F r) r t m l in
          fact-satisfied h (bind x (term_value h F r) F) eq (var x) t (remove x s) s' a tt reads
          (bound-same F x (term_value h F r) ∙ sym value)
          (remove-sound h F s S x (term_value h F r))

  -- the rule: the machine reads e, and the frame with that value in x satisfies the state
  pub record Assigned (e : Term) (s' : State) : Type 0 where
    pub read : ℕ
    pub reads : value h F e ≡ ok read
    pub satisfied : Satisfied h (bind x read F) s'

  pub assigned : (e : Term) (s' : State) → assign_rule x e s ≡ ok s' → Assigned e s'
  unfolding assign_rule term_value remove
  assigned e s' a =
      let (r, q, b) = bind_ok (resolve (equal_in s) s.permissions e) a in
      record {
        read = term_value h F r;
        reads = resolve-reads h F s S e r q;
        satisfied = go r (resolve-listed _ _ e r q) (same r (var x)) refl b;
      }
    where
      go :
          (r : Term) → Reads s.permissions r → (b : Bool) → b ≡ same r (var x) →
          cond b (ok s) (add_equal x (removed_term x (stand_in s x) s r) (remove_to x (stand_in s x) s)) ≡ ok s' →
          Satisfied h (bind x (term_value h F r) F) s'
      go r l true d b =
          subst (Satisfied h _) (ok-inj b)
          (satisfied-frame h F _ s (bound-again (term_value h F r) (ap (term_value h F) (same→≡ r (var x) (subst T d tt))))
          (λ l. omega (arith, ap (λ (A : List Location). halves A l) (bound-held F x (term_value h F r)))) S)
      go r l false d b = equal-added r s' l b

-- a frame in which neither `this` nor w is assigned goes on in its call
pub bound-call : (F : Frame) (x v : ℕ) → first_local ≤ x → SameCall F (advance (bind x v F))
unfolding advance jump bind value_of
bound-call F x v l =
    record {
      ensures = refl;
      this = bound-other F x v this_variable (λ z. omega (arith, l, z));
      w = bound-other F x v parameter (λ z. omega (arith, l, z));
    }

-- the lemma on `let`
pub assign-sound :
    (m : Config) (s s' : State) (x : ℕ) (e : Term) → Satisfied m.heap m.frame s → first_local ≤ x →
    assign_rule x e s ≡ ok s' → Goes m s' (assign_step x e m)
unfolding assign_step with_frame advance jump value_of bind
assign-sound m s s' x e S l a =
    let F : Frame = m.frame in
    let A : Assigned m.heap F s S x e s' = assigned m.heap F s S x e s' a in
    subst (Goes m s') (sym (bind-of-ok (value m.heap F e) _ _ A.reads))
    (record {
      satisfied =
          satisfied-frame m.heap (bind x A.read F) (advance (bind x A.read F)) s' (λ v. refl) (λ l. le_refl _) A.satisfied;
      row = refl;
      same-call = bound-call F x A.read l;
      callers = refl;
    })

-- the lemma on `add` and `sub`
pub compute-sound :
    (m : Config) (s : State) (o : Operation) (x y z : ℕ) → Satisfied m.heap m.frame s → first_local ≤ x →
    Goes m (remove x s) (compute_step o x y z m)
unfolding compute_step computed check ◌>>◌ ◌>>=◌ with_frame advance jump value_of bind
compute-sound m s o x y z S l =
    let n : ℕ = raised o (value_of m.frame y) (value_of m.frame z) in go (in_range n) (n % words)
  where
    go :
        (b : Bool) (v : ℕ) →
        Goes m (remove x s) ((check b overflow >> ok v) >>= λ v. ok (with_frame m (advance (bind x v m.frame))))
    go true v =
        record {
          satisfied =
              satisfied-frame m.heap (bind x v m.frame) (advance (bind x v m.frame)) (remove x s) (λ v. refl) (λ l. le_refl _)
              (remove-sound m.heap m.frame s S x v);
          row = refl;
          same-call = bound-call m.frame x v l;
          callers = refl;
        }
    go false v = tt
