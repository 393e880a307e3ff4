-- W10: the lean machine does what the full machine does, in every program and every state, unless a step of the full machine stops with
-- 24, 25 or 26.
use mathlib.Core.Path.{◌≡◌, refl, sym, ap}
use mathlib.Core.Bool.{Bool, true, false, cond}
use mathlib.Core.List.{List, [], ◌∷◌, map}
use Prim.Native.Nat.{ℕ, zero, suc, ◌%◌}
use lib.Dec.{eqb}
use lib.ListN.{length, get_or}
use Rattle.rules.specs.Base.{Try, ok, no, ◌>>=◌, ◌>>◌, check}
use Rattle.rules.specs.Answers.{Stop, permission_missing}
use Rattle.rules.specs.Syntax.{Rel, Permit, Expr, Formula, Operation, Simple, Stmt, Row, Field, Method, Program, method_numbered, row_numbered, result_variable, words}
use Rattle.rules.specs.Syntax.{num, null, var, path, acc, read, chain, own, cmp, set, assign, compute, new, call, return, assert, release, open_chain, shut_chain, simple, if, else, join, loop, again, end}
use Rattle.rules.specs.Machine as Machine
use Rattle.rules.specs.Machine.{Config, Frame, Heap, Location, Room, Step, on, stop, done, took}
use Rattle.rules.specs.Lean as Lean
use Rattle.rules.proofs.Lists.{update_same}
use Rattle.soundness.specs.Endings.{MayStop}

-- a frame without its set and ensures, and a state of such frames
unfoldable pub bare : Frame → Lean.Frame
bare F = record { values = F.values; row = F.row }

unfoldable pub lean : Config → Lean.Config
lean m = record { heap = m.heap; frame = bare m.frame; callers = map bare m.callers }

-- what the full machine's step says of the lean one's
abbrev pub Follows : Step → Lean.Step → Type 0
Follows (on m) l = l ≡ Lean.Step.on (lean m)
Follows (stop s) l = MayStop s → (r : Lean.Stop) × (l ≡ Lean.Step.stop r) × (Lean.stop_of r ≡ s)
Follows done l = l ≡ Lean.Step.done

-- TESTS THAT ONLY A STUCK STEP FAILS

-- a value with the property Q, or 24, 25 or 26
abbrev pub Only : {A : Type 0} → (A → Type 0) → Try Stop A → Type 0
Only Q (ok a) = Q a
Only Q (no s) = MayStop s → ⊥

only-bind :
    {A B : Type 0} (t : Try Stop A) (k : A → Try Stop B) (Q : A → Type 0) (R : B → Type 0) → Only Q t →
    ((a : A) → Q a → Only R (k a)) → Only R (t >>= k)
unfolding ◌>>=◌
only-bind (ok a) k Q R q h = h a q
only-bind (no s) k Q R q h = q

only-check :
    {B : Type 0} (c : Bool) (s : Stop) (t : Try Stop B) (R : B → Type 0) → (MayStop s → ⊥) → Only R t → Only R (check c s >> t)
unfolding ◌>>◌ check
only-check true s t R n h = h
only-check false s t R n h = n

only-cond : {A : Type 0} (c : Bool) (t u : Try Stop A) (Q : A → Type 0) → Only Q t → Only Q u → Only Q (cond c t u)
only-cond true t u Q x y = x
only-cond false t u Q x y = y

follows-bind :
    {A : Type 0} (t : Try Stop A) (k : A → Try Stop Config) (l : Lean.Step) (Q : A → Type 0) → Only Q t →
    ((a : A) → Q a → Follows (took (k a)) l) → Follows (took (t >>= k)) l
unfolding ◌>>=◌ took
follows-bind (ok a) k l Q q h = h a q
follows-bind (no s) k l Q q h = λ f. absurd (q f)

follows-check :
    (c : Bool) (s : Stop) (t : Try Stop Config) (l : Lean.Step) → (MayStop s → ⊥) → Follows (took t) l →
    Follows (took (check c s >> t)) l
unfolding ◌>>◌ check took
follows-check true s t l n h = h
follows-check false s t l n h = λ f. absurd (n f)

-- a test that the lean machine makes too
follows_test :
    (c : Bool) (r : Lean.Stop) (m : Config) →
    Follows (took (check c (Lean.stop_of r) >> ok m)) (cond c (Lean.Step.on (lean m)) (Lean.Step.stop r))
unfolding ◌>>◌ check took
follows_test true r m = refl
follows_test false r m = λ f. (r, refl, refl)

-- EVALUATION
pub locate-only :
    (F : Frame) (A : List Location) (n x f : ℕ) →
    Only (λ p. p ≡ record { object = Machine.value_of F x; field = f }) (Machine.locate F A n x f)
unfolding Machine.locate
locate-only F A n x f = only-check _ _ _ _ (λ z. z) (only-check _ _ _ _ (λ z. z) refl)

module _ (h : Heap) (F : Frame) where
  pub value-only : (e : Expr ℕ) → Only (λ v. v ≡ Lean.value h (bare F) e) (Machine.value h F e)
  unfolding Machine.value Machine.value_of Lean.value Lean.value_of bare
  value-only (num n) = refl
  value-only null = refl
  value-only (var x) = refl
  value-only (path x f) =
      only-bind (Machine.locate F [] 1 x f) _ _ _ (locate-only F [] 1 x f)
      (λ p e. ap (λ (q : Location). Machine.value_at h q.object f) e)

  walk-only : (A : List Location) (f n o : ℕ) (B : List Location) → Only (λ C. Unit {0}) (Machine.walk h F A f n o B)
  unfolding Machine.walk
  walk-only A f zero o B = only-cond (eqb o 0) (ok B) (no permission_missing) (λ C. Unit {0}) tt (λ z. z)
  walk-only A f (suc n) o B =
      only-cond (eqb o 0) (ok B) _ (λ C. Unit {0}) tt
      (only-check _ _ _ _ (λ z. z)
      (only-check _ _ _ _ (λ z. z) (walk-only A f n (Machine.value_at h o f) (record { object = o; field = f } ∷ B))))

  pub take_walk-only : (f o : ℕ) (A : List Location) → Only (λ C. Unit {0}) (Machine.take_walk h F f o A)
  unfolding Machine.take_walk
  take_walk-only f o A =
      only-bind (Machine.walk h F A f (length F.held) o []) _ _ _ (walk-only A f (length F.held) o []) (λ w u. tt)

  share-only : (k : Permit) (x f : ℕ) (A : List Location) → Only (λ C. Unit {0}) (Machine.take_share h F k x f A)
  unfolding Machine.take_share Machine.take_halves
  share-only acc x f A = only-bind (Machine.locate F A 2 x f) _ _ _ (locate-only F A 2 x f) (λ p e. tt)
  share-only read x f A = only-bind (Machine.locate F A 1 x f) _ _ _ (locate-only F A 1 x f) (λ p e. tt)
  share-only chain x f A = take_walk-only f (Machine.value_of F x) A

  take-only : (φ : Formula ℕ) (A : List Location) → Only (λ B. Unit {0}) (Machine.take_from h F φ A)
  unfolding Machine.take_from
  take-only [] A = tt
  take-only (own k x f ∷ φ) A =
      only-bind (Machine.take_share h F k x f A) _ _ _ (share-only k x f A) (λ B u. take-only φ B)
  take-only (cmp n a b ∷ φ) A =
      only-bind (Machine.value h F a) _ _ _ (value-only a)
      (λ v e. only-bind (Machine.value h F b) _ _ _ (value-only b)
      (λ w d. only-check _ _ _ _ (λ z. z) (take-only φ A)))

  pub footprint-only : (φ : Formula ℕ) → Only (λ B. Unit {0}) (Machine.footprint h F φ)
  unfolding Machine.footprint
  footprint-only φ = take-only φ []

-- BACK TO THE CALLER, whatever the frame's values
end-follows :
    (P : Program) (m : Config) (v : ℕ) → v ≡ Machine.value_of m.frame result_variable → (Cs : List Frame) →
    Follows (Machine.end_step P m Cs) (Lean.back_step P v m.heap (map bare Cs))
unfolding Machine.end_step Machine.returned Machine.advance Machine.jump Machine.bind Machine.holding Machine.statement_of Lean.back_step Lean.advance Lean.jump Lean.bind lean bare took
end-follows P m v e [] = refl
end-follows P m v e (C ∷ Cs) =
    follows-bind (Machine.footprint m.heap m.frame m.frame.ensures) _ _ _ (footprint-only _ _ _) (λ A u. rw e refl)

-- STATEMENTS
module _ (room : Room) (P : Program) (m : Config) where
  set-follows : (x f y : ℕ) → Follows (took (Machine.set_step x f y m)) (Lean.set_step x f y (lean m))
  unfolding Machine.set_step Machine.stored Machine.advance Machine.jump Machine.value_of Lean.set_step Lean.moved Lean.advance Lean.jump Lean.value_of lean bare took
  set-follows x f y =
      follows-bind (Machine.locate m.frame [] 2 x f) _ _ _ (locate-only m.frame [] 2 x f)
      (λ p e. ap (λ (q : Location). Lean.Step.on (lean (Machine.stored m q.object f (Machine.value_of m.frame y)))) (sym e))

  assign-follows : (x : ℕ) (e : Expr ℕ) → Follows (took (Machine.assign_step x e m)) (Lean.assign_step x e (lean m))
  unfolding Machine.assign_step Machine.with_frame Machine.advance Machine.jump Machine.bind Lean.assign_step Lean.moved Lean.advance Lean.jump Lean.bind lean bare took
  assign-follows x e =
      follows-bind (Machine.value m.heap m.frame e) _ _ _ (value-only m.heap m.frame e)
      (λ v d. ap (λ (w : ℕ). Lean.Step.on (lean (Machine.with_frame m (Machine.advance (Machine.bind x w m.frame))))) (sym d))

  compute-follows :
      (o : Operation) (x y z : ℕ) → Follows (took (Machine.compute_step o x y z m)) (Lean.compute_step o x y z (lean m))
  unfolding Machine.compute_step Machine.computed Machine.with_frame Machine.advance Machine.jump Machine.bind Machine.value_of Lean.compute_step Lean.moved Lean.advance Lean.jump Lean.bind Lean.value_of Lean.stop_of lean bare ◌>>=◌ ◌>>◌ check took
  compute-follows o x y z = go (Machine.raised o (Machine.value_of m.frame y) (Machine.value_of m.frame z))
    where
      after : ℕ → Config
      after n = Machine.with_frame m (Machine.advance (Machine.bind x (n % words) m.frame))

      go :
          (n : ℕ) →
          Follows
          (took (check (Machine.in_range n) (Lean.stop_of Lean.Stop.overflow) >> ok (n % words) >>= λ v. ok (Machine.with_frame m (Machine.advance (Machine.bind x v m.frame)))))
          (cond (Machine.in_range n) (Lean.Step.on (lean (after n))) (Lean.Step.stop Lean.Stop.overflow))
      go n = by (Machine.in_range n)
        where
          by :
              (c : Bool) →
              Follows
              (took (check c (Lean.stop_of Lean.Stop.overflow) >> ok (n % words) >>= λ v. ok (Machine.with_frame m (Machine.advance (Machine.bind x v m.frame)))))
              (cond c (Lean.Step.on (lean (after n))) (Lean.Step.stop Lean.Stop.overflow))
          by true = refl
          by false = λ f. (Lean.Stop.overflow, refl, refl)

  new-follows : (x : ℕ) (fs : List Field) → Follows (took (Machine.new_step room x fs m)) (Lean.new_step room x fs (lean m))
  unfolding Machine.new_step Machine.grown Machine.advance Machine.jump Machine.bind Machine.holding Lean.new_step Lean.moved Lean.advance Lean.jump Lean.bind Lean.stop_of lean bare
  new-follows x fs = follows_test _ Lean.Stop.heap_full (Machine.grown m x (map Machine.new_cell fs))

  length-map : (Fs : List Frame) → length (map bare Fs) ≡ length Fs
  length-map [] = refl
  length-map (F ∷ Fs) = ap suc (length-map Fs)

  call-follows : (y : ℕ) (M : Method) (z : ℕ) → Follows (took (Machine.call_step y M z m)) (Lean.call_step y M z (lean m))
  unfolding Machine.call_step Machine.entered Machine.call_frame Machine.holding Machine.value_of Lean.call_step Lean.value_of Lean.stop_of lean bare
  call-follows y M z =
      follows-check _ _ _ _ (λ z. z)
      (follows-bind (Machine.footprint m.heap (Machine.call_frame m M y z) M.requires) _ _ _ (footprint-only _ _ _)
      (λ A u. rw (length-map m.callers) (follows_test _ Lean.Stop.frames_full (Machine.entered m (Machine.call_frame m M y z) A))))

  assert-follows : (φ : Formula ℕ) → Follows (took (Machine.assert_step φ m)) (Lean.pass_step (lean m))
  unfolding Machine.assert_step Machine.with_frame Machine.advance Machine.jump Lean.pass_step Lean.moved Lean.advance Lean.jump lean bare took
  assert-follows φ = follows-bind (Machine.footprint m.heap m.frame φ) _ _ _ (footprint-only _ _ φ) (λ A u. refl)

  release-follows : (φ : Formula ℕ) → Follows (took (Machine.release_step φ m)) (Lean.pass_step (lean m))
  unfolding Machine.release_step Machine.with_frame Machine.advance Machine.jump Machine.holding Lean.pass_step Lean.moved Lean.advance Lean.jump lean bare took
  release-follows φ = follows-bind (Machine.footprint m.heap m.frame φ) _ _ _ (footprint-only _ _ φ) (λ A u. refl)

  open-follows : (y x f : ℕ) → Follows (took (Machine.open_step y x f m)) (Lean.assign_step y (path x f) (lean m))
  unfolding Machine.open_step Machine.with_frame Machine.advance Machine.jump Machine.bind Machine.value_of Lean.assign_step Lean.value Lean.value_of Lean.moved Lean.advance Lean.jump Lean.bind lean bare took
  open-follows y x f =
      follows-check _ _ _ _ (λ z. z)
      (follows-bind (Machine.take_walk m.heap m.frame f (Machine.value_of m.frame x) []) _ _ _ (take_walk-only _ _ f _ []) (λ A u. refl))

  shut-follows : (x f : ℕ) → Follows (took (Machine.shut_step x f m)) (Lean.pass_step (lean m))
  unfolding Machine.shut_step Machine.with_frame Machine.advance Machine.jump Lean.pass_step Lean.moved Lean.advance Lean.jump lean bare took
  shut-follows x f =
      follows-bind (Machine.value m.heap m.frame (path x f)) _ _ _ (value-only m.heap m.frame (path x f))
      (λ v d.
      follows-bind (Machine.take_walk m.heap m.frame f v []) _ _ _ (take_walk-only _ _ f v [])
      (λ A u. follows-bind (Machine.locate m.frame A 2 x f) _ _ _ (locate-only m.frame A 2 x f) (λ p e. refl)))

  choose-follows :
      (n : Rel) (a b : Expr ℕ) (i j : ℕ) → Follows (took (Machine.choose n a b i j m)) (Lean.choose n a b i j (lean m))
  unfolding Machine.choose Machine.with_frame Machine.jump Lean.choose Lean.jump_step Lean.moved Lean.jump lean bare took
  choose-follows n a b i j =
      follows-bind (Machine.value m.heap m.frame a) _ _ _ (value-only m.heap m.frame a)
      (λ v d.
      follows-bind (Machine.value m.heap m.frame b) _ _ _ (value-only m.heap m.frame b)
      (λ w e. rw (sym d, sym e) refl))

  if-follows : (rs : List Row) (n : Rel) (a b : Expr ℕ) → Follows (took (Machine.if_step rs n a b m)) (Lean.if_step rs n a b (lean m))
  unfolding Machine.if_step Lean.if_step lean bare
  if-follows rs n a b = choose-follows n a b _ _

  loop-follows :
      (rs : List Row) (n : Rel) (a b : Expr ℕ) (φ : Formula ℕ) →
      Follows (took (Machine.loop_step rs n a b φ m)) (Lean.if_step rs n a b (lean m))
  unfolding Machine.loop_step
  loop-follows rs n a b φ =
      follows-bind (Machine.footprint m.heap m.frame φ) _ _ _ (footprint-only _ _ φ) (λ A u. if-follows rs n a b)

  simple-follows : (p : Simple) → Follows (took (Machine.simple_step room P p m)) (Lean.simple_step room P p (lean m))
  unfolding Machine.simple_step Lean.simple_step
  simple-follows (set x f y) = set-follows x f y
  simple-follows (assign x e) = assign-follows x e
  simple-follows (compute o x y z) = compute-follows o x y z
  simple-follows (new x c) = new-follows x (get_or P.classes c [])
  simple-follows (call x y n z) = call-follows y (method_numbered P n) z
  simple-follows (assert φ) = assert-follows φ
  simple-follows (release φ) = release-follows φ
  simple-follows (open_chain y x f) = open-follows y x f
  simple-follows (shut_chain x f) = shut-follows x f

  return-follows : (x : ℕ) → Follows (Machine.return_step P x m) (Lean.back_step P (Lean.value_of (lean m).frame x) m.heap (map bare m.callers))
  unfolding Machine.return_step Machine.with_frame Machine.bind Machine.value_of Lean.value_of lean bare
  return-follows x = end-follows P _ _ (sym (update_same 0 m.frame.values result_variable _)) m.callers

  step_at-follows : (s : Stmt) → Follows (Machine.step_at room P s m) (Lean.step_at room P s (lean m))
  unfolding Machine.step_at Machine.else_step Machine.again_step Machine.with_frame Machine.jump Machine.value_of Lean.step_at Lean.jump_step Lean.moved Lean.jump Lean.value_of lean bare
  step_at-follows (simple p) = simple-follows p
  step_at-follows (return x) = return-follows x
  step_at-follows (if n a b) = if-follows P.rows n a b
  step_at-follows else = refl
  step_at-follows (join φ) = assert-follows φ
  step_at-follows (loop n a b φ) = loop-follows P.rows n a b φ
  step_at-follows again = refl
  step_at-follows end = end-follows P m _ refl m.callers

  pub step_follows : Follows (Machine.step room P m) (Lean.step room P (lean m))
  unfolding Machine.step Machine.statement_of Lean.step lean bare
  step_follows = step_at-follows (row_numbered P m.frame.row).stmt
