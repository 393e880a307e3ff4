-- Each step of an accepted program keeps the invariant, or finds the machine full, or is main's `end`.
use mathlib.Core.Path.{◌≡◌, refl, sym, ap, ◌∙◌, subst}
use mathlib.Core.List.{List, [], ◌∷◌}
use mathlib.Core.Option.{some}
use Prim.Native.Nat.{ℕ, suc, ◌≤◌}
use native.Mathlib.Omega.{arith}
use lib.ListN.{length, get_or}
use Rattle.rules.specs.Base.{Try, ok}
use Rattle.rules.specs.Answers.{Stop}
use Rattle.rules.specs.Syntax.{Formula, Simple, Stmt, Program, row_numbered, set, assign, compute, new, call, return, assert, release, open_chain, shut_chain, simple, if, else, join, loop, again, end}
use Rattle.rules.specs.State.{State, show}
use Rattle.rules.specs.Rules.{Open, in_first, in_second, in_loop, rule, return_rule, if_rule, loop_rule, show_end, join_rule, check_row, reached, else_row, join_row, again_row, end_row}
use Rattle.rules.specs.Machine.{open_after, if_step, else_step, Config, Location, Room, Step, on, stop, done, statement_of, footprint, take_from, took, simple_step, step_at, step, compute_step, assert_step, release_step}
use Rattle.rules.proofs.Tries.{bind_ok, ok-inj, at_line-accepted, refused-accepted}
use Rattle.rules.proofs.Changes.{holds}
use Rattle.soundness.specs.WellFormed.{SimpleFormed, StmtFormed, WellFormed}
use Rattle.soundness.specs.Endings.{MayStop}
use Rattle.soundness.proofs.Satisfied.{Satisfied}
use Rattle.soundness.proofs.ShowSound.{AtMostTwo, show-sound}
use Rattle.soundness.proofs.Branches.{Accepts, AcceptsAt, accepts-row, next, loop-at}
use Rattle.soundness.proofs.Stack.{Ready, at-row, at_join, at-loop, at-nothing, Invariant, Goes, Kept, goes_kept, moved-invariant}
use Rattle.soundness.proofs.AssignSound.{assign-sound, compute-sound}
use Rattle.soundness.proofs.SetSound.{set-sound}
use Rattle.soundness.proofs.NewSound.{new-sound}
use Rattle.soundness.proofs.AssertSound.{assert-sound, join-sound, release-sound}
use Rattle.soundness.proofs.ChainSound.{open-sound, shut-sound}
use Rattle.soundness.proofs.BranchSound.{if-sound, else-sound}
use Rattle.soundness.proofs.LoopSound.{loop-sound, again-sound}
use Rattle.soundness.proofs.CallSound.{MethodsAccepted, call-sound, end-sound}
use Rattle.soundness.proofs.ReturnSound.{return-sound}

-- what a step comes to
abbrev pub Fine : Program → Step → Type 0
Fine P (on m) = Invariant P m
Fine P (stop r) = MayStop r
Fine P done = Unit {0}

module _ (room : Room) (P : Program) (W : WellFormed P) (all : MethodsAccepted P) (m : Config)
    (I : Invariant P m) where
  frame-exists : (l : Location) → 1 ≤ holds m.frame l → l.object ≤ length m.heap
  frame-exists l i = I.exist l (omega (arith, i))

  most : AtMostTwo m.frame
  most l = omega (arith, I.two l)

  -- in a state that the frame satisfies
  module _ (s : State) (S : Satisfied m.heap m.frame s) where
    onward :
        (s' : State) (os : List Open) (t : Try Stop Config) → Accepts P m.frame.ensures (suc m.frame.row) (some s') os →
        Goes m s' t → Kept P m (took t)
    onward s' os t k g = goes_kept P m s' os t k g

    simple-kept :
        (p : Simple) → (row_numbered P m.frame.row).stmt ≡ simple p → SimpleFormed p → (s' : State) (os : List Open) →
        rule P p s ≡ ok s' → Accepts P m.frame.ensures (suc m.frame.row) (some s') os →
        Kept P m (took (simple_step room P p m))
    unfolding rule simple_step
    simple-kept (set x f y) c l s' os a k = onward s' os _ k (set-sound m s s' x f y S most a)
    simple-kept (assign x v) c l s' os a k = onward s' os _ k (assign-sound m s s' x v S l a)
    simple-kept (compute o x y z) c l s' os a k =
        onward s' os _ k (subst (λ w. Goes m w (compute_step o x y z m)) (ok-inj a) (compute-sound m s o x y z S l))
    simple-kept (new x d) c l s' os a k =
        onward s' os _ k (new-sound room m s s' x (get_or P.classes d []) S frame-exists (W.classes d) l a)
    simple-kept (call x y n z) c l s' os a k =
        call-sound P W all m I.below s S most x y n z s' os c l a k
    simple-kept (assert φ) c l s' os a k =
        let (u, b, q) = bind_ok (show s φ) a in
        onward s' os _ k (subst (λ w. Goes m w (assert_step φ m)) (ok-inj q) (assert-sound m s S most φ u b))
    simple-kept (release φ) c l s' os a k =
        let (u, b, q) = bind_ok (show s φ) a in
        onward s' os _ k (subst (λ w. Goes m w (release_step φ m)) (ok-inj q) (release-sound m s S most φ u b))
    simple-kept (open_chain y x f) c l s' os a k = onward s' os _ k (open-sound m s s' y x f S most l.0 l.1 a)
    simple-kept (shut_chain x f) c l s' os a k = onward s' os _ k (shut-sound m s s' x f S most a)

    row_kept :
        (os : List Open) (t : Stmt) → AcceptsAt P m.frame.ensures t m.frame.row (some s) os → Kept P m (step_at room P t m)
    unfolding check_row reached else_row join_row again_row end_row step_at if_step else_step join_rule loop_rule show_end open_after
    row_kept os (simple p) A =
        let (s', a, b) = at_line-accepted _ (rule P p s) _ _ A.checks in
        simple-kept p A.is_row (subst StmtFormed A.is_row (W.rows m.frame.row)) s' os a
        (next P _ A _ _ b A.opened)
    row_kept os (return x) A =
        let (_, a, _) = at_line-accepted _ (return_rule x m.frame.ensures s) _ _ A.checks in
        return-sound P m s S x most I.below a
    row_kept os (if n a b) A =
        let (d, i, j) = at_line-accepted _ (if_rule n a b s) _ _ A.checks in
        if-sound P m s S n a b d os i (next P _ A _ _ j A.opened)
    row_kept [] else A = refused-accepted A.checks
    row_kept (in_first s₂ ∷ os) else A = else-sound P m s S s₂ os (next P _ A _ _ A.checks A.opened)
    row_kept (in_second s₁ ∷ os) else A = refused-accepted A.checks
    row_kept (in_loop ψ s₁ ∷ os) else A = refused-accepted A.checks
    row_kept [] (join φ) A = refused-accepted A.checks
    row_kept (in_first s₂ ∷ os) (join φ) A = refused-accepted A.checks
    row_kept (in_second s₁ ∷ os) (join φ) A =
        let (s', a, b) = at_line-accepted _ (join_rule φ s₁ (some s)) _ _ A.checks in
        let (_, _, a₁) = bind_ok (show_end φ s₁) a in
        let (_, d, j) = bind_ok (show_end φ (some s)) a₁ in
        let (u, i, _) = bind_ok (show s φ) d in
        onward s' os _ (next P _ A _ _ b A.opened) (join-sound m s S most φ u i s' j)
    row_kept (in_loop ψ s₁ ∷ os) (join φ) A = refused-accepted A.checks
    row_kept os (loop n a b φ) A =
        let (c, i, j) = at_line-accepted _ (loop_rule n a b φ s) _ _ A.checks in
        let (u, d, _) = bind_ok (show s φ) i in
        let L = loop-at P _ _ n a b φ s c os A.is_row i j in
        subst (λ t. Kept P m (step_at room P t m)) (sym L.found_loop ∙ A.is_row) (loop-sound P m s S most φ u d os L A.opened)
    row_kept [] again A = refused-accepted A.checks
    row_kept (in_first s₂ ∷ os) again A = refused-accepted A.checks
    row_kept (in_second s₁ ∷ os) again A = refused-accepted A.checks
    row_kept (in_loop φ s₁ ∷ os) again A =
        let (_, d, _) = at_line-accepted _ (show_end φ (some s)) _ _ A.checks in
        let (u, a, _) = bind_ok (show s φ) d in
        again-sound P m s S most φ u a os s₁ A.opened
    row_kept [] end A =
        let (_, d, _) = at_line-accepted _ (show_end m.frame.ensures (some s)) _ _ A.checks in
        let (u, a, _) = bind_ok (show s m.frame.ensures) d in
        end-sound P m m _ (show-sound m.heap m.frame s S most m.frame.ensures u a).is-footprint m.callers refl I.below
    row_kept (o ∷ os) end A = refused-accepted A.checks

  ready-kept : Ready P m.heap m.frame → Kept P m (step_at room P (row_numbered P m.frame.row).stmt m)
  unfolding step_at footprint take_from
  ready-kept (at-row s os S k) = row_kept s S os _ (accepts-row P _ m.frame.row (some s) os k)
  ready-kept (at_join φ s s' u os j S a b k) =
      subst (λ t. Kept P m (step_at room P t m)) (sym j) (onward s S s' os _ k (join-sound m s S most φ u a s' b))
  ready-kept (at-loop φ s u os S a L o) =
      subst (λ t. Kept P m (step_at room P t m)) (sym L.found_loop) (loop-sound P m s S most φ u a os L o)
  ready-kept (at-nothing e f) =
      subst (λ t. Kept P m (step_at room P t m)) (sym e)
      (end-sound P m m [] (ap (λ (φ : Formula ℕ). footprint m.heap m.frame φ) f) m.callers refl I.below)

  pub step_keeps : Fine P (step room P m)
  unfolding step statement_of
  step_keeps = go (step room P m) refl (ready-kept I.ready)
    where
      go : (t : Step) → step room P m ≡ t → Kept P m t → Fine P t
      go (on m') e M = moved-invariant room P m m' I e M
      go (stop r) e k = k
      go done e k = tt
