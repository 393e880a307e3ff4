-- `loop` and `again`: the body starts, and what follows goes on, where the checker's state is satisfied.
use mathlib.Core.Path.{◌≡◌, refl, sym, subst}
use mathlib.Core.List.{List, ◌∷◌}
use mathlib.Core.Option.{some}
use Prim.Native.Nat.{ℕ, suc}
use native.Mathlib.Nat.{le_refl}
use Rattle.rules.specs.Base.{ok}
use Rattle.rules.specs.Syntax.{Formula, Program, row_numbered}
use Rattle.rules.specs.State.{Permission, State, show}
use Rattle.rules.specs.Rules.{Open, in_loop}
use Rattle.rules.specs.Machine.{Config, value_of, footprint, open_after, open_at, loop_of, jump, with_frame, took, if_step, loop_step, again_step}
use Rattle.rules.proofs.Tries.{bind-of-ok}
use Rattle.rules.proofs.Footprints.{footprint-held}
use Rattle.soundness.proofs.Satisfied.{Satisfied, satisfied-frame}
use Rattle.soundness.proofs.ShowSound.{AtMostTwo, show-sound}
use Rattle.soundness.proofs.AddSound.{add-empty}
use Rattle.soundness.proofs.Branches.{LoopAt, Opened, Accepts, to-again}
use Rattle.soundness.proofs.Stack.{at-loop, Moved, same-frame, Kept}
use Rattle.soundness.proofs.BranchSound.{choose-kept}

module _ (P : Program) (m : Config) (s : State) (S : Satisfied m.heap m.frame s) (most : AtMostTwo m.frame) (φ : Formula ℕ)
    (u : List Permission) (a : show s φ ≡ ok u) (os : List Open) where
  -- the lemma on `loop`, from a state that shows the invariant
  pub loop-sound :
      (L : LoopAt P m.frame.ensures m.frame.row φ os) → Opened P m.frame.ensures os (open_at P.rows m.frame.row) →
      Kept P m (took (loop_step P.rows L.rel L.left L.right φ m))
  unfolding open_at open_after row_numbered if_step loop_step
  loop-sound L o =
      let f = (show-sound m.heap m.frame s S most φ u a).is-footprint in
      let S₀ : Satisfied m.heap m.frame L.known =
      add-empty m.heap m.frame m.frame (λ v. refl) _ φ L.known f (footprint-held m.heap m.frame φ _ f) L.adds in
      let k : Accepts P m.frame.ensures (suc m.frame.row) (some L.states.0) (in_loop φ L.states.1 ∷ os) = (
        L.goes_on,
        subst
            (λ t. Opened P m.frame.ensures (in_loop φ L.states.1 ∷ os) (open_after t m.frame.row (open_at P.rows m.frame.row)))
            (sym L.found_loop) (L, o, o),
      ) in
      subst (λ t. Kept P m (took t)) (sym (bind-of-ok (footprint m.heap m.frame φ) _ _ f))
      (choose-kept P m L.known S₀ L.rel L.left L.right L.states L.splits _ _ (in_loop φ L.states.1 ∷ os) os k
      (to-again P _ m.frame.row (some L.states.0) φ L.states.1 os k))

  -- the lemma on `again`
  pub again-sound :
      (t : State) → Opened P m.frame.ensures (in_loop φ t ∷ os) (open_at P.rows m.frame.row) →
      Moved P m (again_step P.rows m)
  unfolding with_frame jump value_of loop_of again_step
  again-sound t (L, o, _) =
      same-frame (at-loop φ s u os (satisfied-frame m.heap m.frame _ s (λ v. refl) (λ l. le_refl _) S) a L o)
      (record { ensures = refl; this = refl; w = refl }) refl
