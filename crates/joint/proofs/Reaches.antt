-- The states that a run comes to, step by step; a run from there; and that it never has more objects than its heap has room for.
use mathlib.Core.Path.{◌≡◌, refl, sym, ap, ◌∙◌, subst}
use mathlib.Core.List.{List, [], ◌∷◌, map}
use mathlib.Core.Logic.{⊎_elim}
use Prim.Native.Nat.{ℕ, zero, suc, ◌+◌, ◌-◌, ◌≤◌, ◌<◌}
use native.Mathlib.Omega.{arith}
use lib.Dec.{ltb, ltb→lt}
use lib.ListN.{length, length-append}
use Rattle.rules.specs.Base.{ok, update}
use Rattle.rules.specs.Answers.{Stop, Ending, finished, steps_taken, stopped}
use Rattle.rules.specs.Syntax.{Rel, Expr, Simple, Stmt, Field, Formula, Program, method_numbered}
use Rattle.rules.specs.Syntax.{path, set, assign, compute, new, call, return, assert, release, open_chain, shut_chain, simple, if, else, join, loop, again, end}
use Rattle.rules.specs.Machine.{Config, Frame, Heap, Room, on, stop, done, step, step_at, simple_step, run, go_on, ends, start, run_program, statement_of}
use Rattle.rules.specs.Machine.{locate, value, footprint, store, stored, grown, new_cell, with_frame, entered, returned, computed, choose, set_step, assign_step, compute_step, new_step, assert_step, release_step, take_walk, open_step, shut_step, if_step, else_step, loop_step, again_step, end_step, return_step, value_of}
use Rattle.rules.specs.Runs.{EndedBy, Run, TwoHalves}
use Rattle.rules.proofs.Lists.{and_both, decide_eq}
use Rattle.rules.proofs.Tries.{bind_ok, check-ok, ok-inj}
use Rattle.rules.proofs.Sets.{locate-held}
use Rattle.rules.proofs.States.{on-inj, took-on}
use Rattle.rules.proofs.Changes.{call_enters, step-changes}
use Rattle.rules.proofs.Disjoint.{HeldExists, change-keeps, start_none}

module _ (room : Room) (P : Program) where
  -- after n steps the run is in state m
  pub data Reaches : ℕ → Config → Type 0 where
    at-start : Reaches 0 (start P)
    by-step : {n : ℕ} {m m' : Config} → Reaches n m → step room P m ≡ on m' → Reaches (suc n) m'

  -- A RUN FROM THERE
  run_step : (k c : ℕ) (m m' : Config) → step room P m ≡ on m' → run room P (suc k) c m ≡ run room P k (suc c) m'
  unfolding run go_on
  run_step k c m m' s = rw s refl

  pub run-from : {n : ℕ} {m : Config} → Reaches n m → (k : ℕ) → run_program room P (n + k) ≡ run room P k n m
  unfolding run_program
  run-from at-start k = ap (λ (j : ℕ). run room P j 0 (start P)) (omega arith)
  run-from (by-step {n} {m} {m'} x s) k =
      ap (λ (j : ℕ). run room P j 0 (start P)) (omega arith) ∙ run-from x (suc k) ∙ run_step k n m m' s

  as-sum : {n : ℕ} {m : Config} → Reaches n m → (k d : ℕ) → n + d ≡ k → run_program room P k ≡ run room P d n m
  as-sum x k d e = ap (run_program room P) (sym e) ∙ run-from x d

  -- the run that was allowed k steps
  pub run-taken : {n : ℕ} {m : Config} → Reaches n m → run_program room P n ≡ ends P steps_taken n m
  unfolding run
  run-taken {n} x = as-sum x n 0 (omega arith)

  pub run-stopped :
      {n : ℕ} {m : Config} → Reaches n m → (s : Stop) → step room P m ≡ stop s → (k : ℕ) → n < k → run_program room P k ≡ ends P (stopped s) n m
  unfolding run go_on
  run-stopped {n} {m} x s e k l = as-sum x k (suc (k - suc n)) (omega (arith, l)) ∙ rw e refl

  pub run-done : {n : ℕ} {m : Config} → Reaches n m → step room P m ≡ done → (k : ℕ) → n < k → run_program room P k ≡ ends P finished (suc n) m
  unfolding run go_on
  run-done {n} {m} x e k l = as-sum x k (suc (k - suc n)) (omega (arith, l)) ∙ rw e refl

  -- THE STATES OF A RUN
  pub reached : {k : ℕ} (R : Run room P k) (n : ℕ) → n ≤ R.steps → Reaches n (R.state n)
  reached R zero l = subst (Reaches 0) (sym R.first) at-start
  reached R (suc n) l = by-step (reached R n (omega (arith, l))) (R.next n l)

  pub reached-once : (n : ℕ) {m m' : Config} → Reaches n m → Reaches n m' → m ≡ m'
  reached-once zero at-start at-start = refl
  reached-once (suc n) (by-step x s) (by-step y t) =
      on-inj (sym s ∙ (ap (step room P) (reached-once n x y) ∙ t))

  -- a run does all that is reached in its allowed steps
  steps-allowed : (k n : ℕ) (m : Config) (e : Ending) → EndedBy room P k n m e → n ≤ k
  steps-allowed k n m finished (l, _) = omega (arith, l)
  steps-allowed k n m steps_taken e = omega (arith, e)
  steps-allowed k n m (stopped s) (l, _) = omega (arith, l)

  pub at_most : {k : ℕ} (R : Run room P k) → R.steps ≤ k
  at_most R = steps-allowed _ _ _ R.ending R.has_ended

  ends-here : (k n : ℕ) (m m' : Config) (e : Ending) → EndedBy room P k n m e → step room P m ≡ on m' → n < k → ⊥
  ends-here k n m m' finished (_, d) s l = let z : ◌≡◌ {A = ℕ} 0 1 = cc in absurd (omega arith)
  ends-here k n m m' steps_taken e s l = omega (arith, e, l)
  ends-here k n m m' (stopped r) (_, d) s l = let z : ◌≡◌ {A = ℕ} 0 1 = cc in absurd (omega arith)

  pub as_long : {k : ℕ} (R : Run room P k) (n : ℕ) {m : Config} → Reaches n m → n ≤ k → n ≤ R.steps
  as_long R zero x l = omega arith
  as_long R (suc n) (by-step {m = w} x s) l =
      ⊎_elim
      (λ (e : n ≡ R.steps).
      absurd
      (ends-here _ _ _ _ R.ending R.has_ended
      (ap (step room P) (subst (λ (i : ℕ). R.state i ≡ w) e (reached-once n (reached R n (omega (arith, e))) x)) ∙ s)
      (omega (arith, e, l))))
      (λ (d : n ≡ R.steps → ⊥). omega (arith, d, as_long R n x (omega (arith, l))))
      (decide_eq n R.steps)

  -- where a step is not done, or was the last, the run has no further one
  pub no-further :
      {k : ℕ} (R : Run room P k) {n : ℕ} {m : Config} → Reaches n m → ((m' : Config) → step room P m ≡ on m' → ⊥) → n < R.steps → ⊥
  no-further R {n} {m} x none l =
      none (R.state (suc n)) (ap (step room P) (reached-once n x (reached R n (omega (arith, l)))) ∙ R.next n l)

-- OBJECTS
update-inside : {A : Type 0} (d : A) (l : List A) (i : ℕ) (a : A) → i < length l → length (update d l i a) ≡ length l
unfolding update
update-inside d [] i a h = absurd (omega arith)
update-inside d (x ∷ l) zero a h = refl
update-inside d (x ∷ l) (suc i) a h = ap suc (update-inside d l i a (omega arith))

store-inside : (h : Heap) (o f v : ℕ) → o ≤ length h → length (store h o f v) ≡ length h
unfolding store
store-inside h zero f v l = refl
store-inside h (suc i) f v l = update-inside [] h i _ l

module _ (room : Room) (P : Program) (m m' : Config) (E : HeldExists m) (l : length m.heap ≤ room.objects) where
  abbrev Fits : Type 0
  Fits = length m'.heap ≤ room.objects

  same : m.heap ≡ m'.heap → Fits
  same e = omega (arith, l, ap (λ (h : Heap). length h) e)

  heap_of : {a b : Config} → a ≡ b → a.heap ≡ b.heap
  heap_of e = ap (λ (w : Config). w.heap) e

  -- `set` stores in an object that the frame holds a location of
  set-fits : (x f y : ℕ) → set_step x f y m ≡ ok m' → Fits
  unfolding set_step stored
  set-fits x f y e =
      let (p, k, q) = bind_ok (locate m.frame [] 2 x f) e in
      let o : p.object ≤ length m.heap = E p (omega (arith, locate-held m.frame [] 2 x f p k)) in
      omega (arith, l, ap (λ (h : Heap). length h) (heap_of (ok-inj q)), store-inside m.heap p.object f (value_of m.frame y) o)

  new-fits : (x : ℕ) (fs : List Field) → new_step room x fs m ≡ ok m' → Fits
  unfolding new_step grown
  new-fits x fs e =
      let (t, q) = check-ok _ _ e in
      let (a, _) = and_both (ltb (length m.heap) room.objects) _ t in
      omega (
        arith,
        ltb→lt (length m.heap) room.objects a,
        ap (λ (h : Heap). length h) (heap_of (ok-inj q)),
        length-append m.heap (map new_cell fs ∷ []),
      )

  choose-fits : (n : Rel) (a b : Expr ℕ) (i j : ℕ) → choose n a b i j m ≡ ok m' → Fits
  unfolding choose with_frame
  choose-fits n a b i j e =
      let (v, _, q) = bind_ok (value m.heap m.frame a) e in
      let (w, _, r) = bind_ok (value m.heap m.frame b) q in
      same (heap_of (ok-inj r))

  assert-fits : (φ : Formula ℕ) → assert_step φ m ≡ ok m' → Fits
  unfolding assert_step with_frame
  assert-fits φ e = let (_, _, q) = bind_ok (footprint m.heap m.frame φ) e in same (heap_of (ok-inj q))

  simple-fits : (p : Simple) → simple_step room P p m ≡ ok m' → Fits
  unfolding simple_step assign_step compute_step release_step open_step shut_step with_frame entered
  simple-fits (set x f y) e = set-fits x f y e
  simple-fits (assign x a) e = let (_, _, q) = bind_ok (value m.heap m.frame a) e in same (heap_of (ok-inj q))
  simple-fits (compute o x y z) e =
      let (_, _, q) = bind_ok (computed o (value_of m.frame y) (value_of m.frame z)) e in same (heap_of (ok-inj q))
  simple-fits (new x c) e = new-fits x _ e
  simple-fits (call x y n z) e = let (_, _, q) = call_enters y (method_numbered P n) z m m' e in same (heap_of (sym q))
  simple-fits (assert φ) e = assert-fits φ e
  simple-fits (release φ) e = let (_, _, q) = bind_ok (footprint m.heap m.frame φ) e in same (heap_of (ok-inj q))
  simple-fits (open_chain y x f) e =
      let (_, e₁) = check-ok _ _ e in
      let (_, _, q) = bind_ok (take_walk m.heap m.frame f (value_of m.frame x) []) e₁ in
      same (heap_of (ok-inj q))
  simple-fits (shut_chain x f) e =
      let (v, _, e₁) = bind_ok (value m.heap m.frame (path x f)) e in
      let (A, _, e₂) = bind_ok (take_walk m.heap m.frame f v []) e₁ in
      let (_, _, q) = bind_ok (locate m.frame A 2 x f) e₂ in
      same (heap_of (ok-inj q))

  end_fits : (w : Config) → w.heap ≡ m.heap → (Cs : List Frame) → end_step P w Cs ≡ on m' → Fits
  unfolding end_step returned
  end_fits w h [] e = absurd (let z : ◌≡◌ {A = ℕ} 0 1 = cc in omega arith)
  end_fits w h (C ∷ Cs) e =
      let (_, _, q) = bind_ok (footprint w.heap w.frame w.frame.ensures) (took-on _ m' e) in
      same (sym h ∙ heap_of (ok-inj q))

  statement-fits : (t : Stmt) → step_at room P t m ≡ on m' → Fits
  unfolding step_at if_step else_step loop_step again_step return_step with_frame
  statement-fits (simple p) e = simple-fits p (took-on _ m' e)
  statement-fits (return x) e = end_fits _ refl m.callers e
  statement-fits (if n a b) e = choose-fits n a b _ _ (took-on _ m' e)
  statement-fits else e = same (heap_of (on-inj e))
  statement-fits (join φ) e = assert-fits φ (took-on _ m' e)
  statement-fits (loop n a b φ) e =
      let (_, _, q) = bind_ok (footprint m.heap m.frame φ) (took-on _ m' e) in choose-fits n a b _ _ q
  statement-fits again e = same (heap_of (on-inj e))
  statement-fits end e = end_fits m refl m.callers e

  step_fits : step room P m ≡ on m' → Fits
  unfolding step
  step_fits e = statement-fits (statement_of P m.frame) e

-- "22 only where `new` would pass": a run never has more objects than its heap has room for
module _ (room : Room) (P : Program) where
  all_fit : (n : ℕ) {m : Config} → Reaches room P n m → TwoHalves m × HeldExists m × (length m.heap ≤ room.objects)
  unfolding start
  all_fit zero at-start = (λ p. omega (arith, start_none P p), λ p l. absurd (omega (arith, start_none P p, l)), omega arith)
  all_fit (suc n) (by-step {m = m} {m' = m'} x s) =
      let (h, e, l) = all_fit n x in
      let (h', e') = change-keeps m m' (step-changes room P m m' s) h e in
      (h', e', step_fits room P m m' e l s)

  pub within-room : (n : ℕ) {m : Config} → Reaches room P n m → length m.heap ≤ room.objects
  within-room n x = (all_fit n x).2
