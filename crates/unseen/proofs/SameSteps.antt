-- One step from two states that agree on what the running frame holds: the same step in both, whatever their callers are.
use mathlib.Core.Path.{◌≡◌, refl, sym, ap, ◌∙◌, subst}
use mathlib.Core.Bool.{Bool, true, false, cond, ◌&&◌}
use mathlib.Core.List.{List, [], ◌∷◌, ◌++◌, map}
use Prim.Native.Nat.{ℕ, zero, suc, ◌≤◌}
use native.Mathlib.Omega.{arith}
use lib.Dec.{T, eqb, leb, leb→le, eqb→eq, T_not}
use lib.ListN.{length, get_or}
use Rattle.rules.specs.Base.{Try, ok, no, ◌>>=◌, ◌>>◌, check}
use Rattle.rules.specs.Answers.{Stop}
use Rattle.rules.specs.Syntax.{Rel, Permit, Expr, Formula, Operation, Simple, Stmt, Field, Method, Program, method_numbered, result_variable}
use Rattle.rules.specs.Syntax.{num, null, var, path, acc, read, chain, own, cmp, set, assign, compute, new, call, return, assert, release, open_chain, shut_chain, simple, if, else, join, loop, again, end}
use Rattle.rules.specs.Machine.{Config, Frame, Heap, Location, Room, Step, on, stop, done, took, halves, walk, take_walk, take_share, value_at, value_of, locate, value, take_from, footprint, bind, with_frame, computed}
use Rattle.rules.specs.Machine.{choose, if_step, else_step, loop_step, again_step, stored, set_step, assign_step, compute_step, new_cell, grown, new_step, call_frame, entered, call_step, returned, assert_step, release_step, open_step, shut_step, end_step, return_step, simple_step, step_at, step, statement_of}
use Rattle.rules.proofs.Lists.{and_both, F-false}
use Rattle.rules.proofs.Tries.{no_ok, bind_ok, check-ok}
use Rattle.rules.proofs.Sets.{locate-held, locate-is}
use Rattle.rules.proofs.Footprints.{footprint-held}
use Rattle.rules.proofs.Changes.{holds}
use Rattle.unseen.specs.Unseen.{classes_of, SameAt, resume}
use Rattle.unseen.proofs.Shapes.{alike-length, alike-fields, store-alike, store-agrees, grown-alike, grown-agrees}

-- the heaps agree on what the frame holds
abbrev pub AgreeOn : Heap → Heap → Frame → Type 0
AgreeOn h h' F = (p : Location) → 1 ≤ halves F.held p → SameAt h h' p

-- EVALUATION

bind-same :
    {A B : Type 0} (t : Try Stop A) (k l : A → Try Stop B) → ((a : A) → t ≡ ok a → k a ≡ l a) → (t >>= k) ≡ (t >>= l)
unfolding ◌>>=◌
bind-same (ok a) k l e = e a refl
bind-same (no s) k l e = refl

check-same : {B : Type 0} (c : Bool) (s : Stop) (t u : Try Stop B) → (T c → t ≡ u) → (check c s >> t) ≡ (check c s >> u)
unfolding ◌>>◌ check
check-same true s t u e = e tt
check-same false s t u e = refl

-- what a walk passes is held
passed-held :
    (F : Frame) (taken : List Location) (p : Location) → T (leb 2 (holds F p) && eqb (halves taken p) 0) → 1 ≤ holds F p
passed-held F taken p t =
    let l = leb→le 2 (holds F p) (and_both (leb 2 (holds F p)) (eqb (halves taken p) 0) t).0 in omega (arith, l)

module _ (h h' : Heap) (F : Frame) (A : AgreeOn h h' F) where
  pub value_same : (e : Expr ℕ) → value h' F e ≡ value h F e
  unfolding value
  value_same (num n) = refl
  value_same null = refl
  value_same (var x) = refl
  value_same (path x f) =
      bind-same (locate F [] 1 x f) _ _
      (λ p e.
      let is : p.field ≡ f = ap (λ (r : Location). r.field) (locate-is F [] 1 x f p e) in
      ap ok
      (subst (λ (g : ℕ). value_at h' p.object g ≡ value_at h p.object g) is
      (A p (omega (arith, locate-held F [] 1 x f p e)))))

  walk_same : (taken : List Location) (f n o : ℕ) (B : List Location) → walk h' F taken f n o B ≡ walk h F taken f n o B
  unfolding walk
  walk_same taken f zero o B = refl
  walk_same taken f (suc n) o B =
      ap (λ (t : Try Stop (List Location)). cond (eqb o 0) (ok B) t)
      (check-same _ _ _ _
      (λ i.
      check-same _ _ _ _
      (λ j.
      let p : Location = record { object = o; field = f } in
      ap (λ (v : ℕ). walk h' F taken f n v (p ∷ B)) (A p (passed-held F taken p j))
      ∙ walk_same taken f n (value_at h o f) (p ∷ B))))

  take_walk-same : (f o : ℕ) (B : List Location) → take_walk h' F f o B ≡ take_walk h F f o B
  unfolding take_walk
  take_walk-same f o B =
      ap (λ (t : Try Stop (List Location)). t >>= λ ws. ok (ws ++ (ws ++ B))) (walk_same B f (length F.held) o [])

  share-same : (k : Permit) (x f : ℕ) (B : List Location) → take_share h' F k x f B ≡ take_share h F k x f B
  unfolding take_share
  share-same acc x f B = refl
  share-same read x f B = refl
  share-same chain x f B = take_walk-same f (value_of F x) B

  take_same : (φ : Formula ℕ) (B : List Location) → take_from h' F φ B ≡ take_from h F φ B
  unfolding take_from
  take_same [] B = refl
  take_same (own k x f ∷ φ) B =
      rw (share-same k x f B) (bind-same (take_share h F k x f B) _ _ (λ C e. take_same φ C))
  take_same (cmp n a b ∷ φ) B = rw (value_same a, value_same b, take_same φ B) refl

  pub footprint-same : (φ : Formula ℕ) → footprint h' F φ ≡ footprint h F φ
  unfolding footprint
  footprint-same φ = take_same φ []

-- a walk from an object passes its field first
first-held :
    (h : Heap) (F : Frame) (f n o : ℕ) (ws : List Location) → (o ≡ 0 → ⊥) → walk h F [] f n o [] ≡ ok ws →
    1 ≤ holds F (record { object = o; field = f })
unfolding walk
first-held h F f zero o ws z e = no_ok (rw (F-false (eqb o 0) (λ t. z (eqb→eq o 0 t))) at e)
first-held h F f (suc n) o ws z e =
    let (_, a) = check-ok _ _ (rw (F-false (eqb o 0) (λ t. z (eqb→eq o 0 t))) at e) in
    passed-held F [] (record { object = o; field = f }) (check-ok _ _ a).0

-- AFTER A STEP

-- the two states stay in their frames, enter a call, or return from one: Cs and Cs' were the callers before, F the frame that ran
pub data Moved (P : Program) (F : Frame) (Cs Cs' : List Frame) (a b : Config) : Type 0 where
  stays : b.frame ≡ a.frame → a.callers ≡ Cs → b.callers ≡ Cs' → Moved P F Cs Cs' a b
  enters : (C : Frame) → b.frame ≡ a.frame → a.callers ≡ C ∷ Cs → b.callers ≡ C ∷ Cs' → Moved P F Cs Cs' a b
  returns :
      (C C' : Frame) (r : ℕ) (A : List Location) → Cs ≡ C ∷ a.callers → Cs' ≡ C' ∷ b.callers → a.frame ≡ resume P C r A →
      b.frame ≡ resume P C' r A → ((p : Location) → halves A p ≤ holds F p) → Moved P F Cs Cs' a b

-- m was the state before, with h' and Cs' for its heap and callers in the other one: objects are alike, and the heaps agree where they did
pub record Twins (P : Program) (m : Config) (h' : Heap) (Cs' : List Frame) (a b : Config) : Type 0 where
  pub alike : classes_of b.heap ≡ classes_of a.heap
  pub kept : (p : Location) → SameAt m.heap h' p → SameAt a.heap b.heap p
  pub moved : Moved P m.frame m.callers Cs' a b

abbrev pub SameStep : Program → Config → Heap → List Frame → Step → Step → Type 0
SameStep P m h' Cs' (on a) (on b) = Twins P m h' Cs' a b
SameStep P m h' Cs' (on a) (stop t) = ⊥
SameStep P m h' Cs' (on a) done = ⊥
SameStep P m h' Cs' (stop s) (on b) = ⊥
SameStep P m h' Cs' (stop s) (stop t) = t ≡ s
SameStep P m h' Cs' (stop s) done = ⊥
SameStep P m h' Cs' done (on b) = ⊥
SameStep P m h' Cs' done (stop t) = ⊥
SameStep P m h' Cs' done done = Unit {0}

-- the same frame on another heap, under other callers
abbrev pub other : Heap → List Frame → Config → Config
other h Cs m = record { heap = h; frame = m.frame; callers = Cs }

-- a sequence: what comes first is the same in both, and so is what follows
module _ (P : Program) (m : Config) (h' : Heap) (Cs' : List Frame) where
  same-bind :
      {A : Type 0} (t : Try Stop A) (k l : A → Try Stop Config) →
      ((a : A) → t ≡ ok a → SameStep P m h' Cs' (took (k a)) (took (l a))) → SameStep P m h' Cs' (took (t >>= k)) (took (t >>= l))
  unfolding ◌>>=◌ took
  same-bind (ok a) k l e = e a refl
  same-bind (no s) k l e = refl

  same_check :
      (c : Bool) (s : Stop) (t u : Try Stop Config) → (T c → SameStep P m h' Cs' (took t) (took u)) →
      SameStep P m h' Cs' (took (check c s >> t)) (took (check c s >> u))
  unfolding ◌>>◌ check took
  same_check true s t u e = e tt
  same_check false s t u e = refl

-- STATEMENTS

bind_held : (x v : ℕ) (F : Frame) → (bind x v F).held ≡ F.held
unfolding bind
bind_held x v F = refl

module _
    (room : Room) (P : Program) (m : Config) (h' : Heap) (Cs' : List Frame) (a : classes_of h' ≡ classes_of m.heap)
    (l : length Cs' ≡ length m.callers) (A : AgreeOn m.heap h' m.frame) where
  -- what m does, and what the other state does
  abbrev Same : (Config → Try Stop Config) → Type 0
  Same s = SameStep P m h' Cs' (took (s m)) (took (s (other h' Cs' m)))

  -- only the frame changes, in both alike
  same-frame : (F : Frame) → Twins P m h' Cs' (with_frame m F) (with_frame (other h' Cs' m) F)
  unfolding with_frame
  same-frame F = record { alike = a; kept = λ p s. s; moved = stays refl refl refl }

  set_same : (x f y : ℕ) → Same (set_step x f y)
  unfolding set_step stored took
  set_same x f y =
      same-bind P m h' Cs' (locate m.frame [] 2 x f) _ _
      (λ p e.
      record {
        alike = store-alike m.heap h' p.object f _ a;
        kept = store-agrees m.heap h' p.object f _;
        moved = stays refl refl refl;
      })

  assign-same : (x : ℕ) (e : Expr ℕ) → Same (assign_step x e)
  unfolding assign_step took
  assign-same x e =
      rw (value_same m.heap h' m.frame A e)
      (same-bind P m h' Cs' (value m.heap m.frame e) _ _ (λ v d. same-frame _))

  compute-same : (o : Operation) (x y z : ℕ) → Same (compute_step o x y z)
  unfolding compute_step took
  compute-same o x y z =
      same-bind P m h' Cs' (computed o (value_of m.frame y) (value_of m.frame z)) _ _ (λ v d. same-frame _)

  new-same : (x : ℕ) (fs : List Field) → Same (new_step room x fs)
  unfolding new_step grown took
  new-same x fs =
      rw (alike-length m.heap h' a, alike-fields m.heap h' a)
      (same_check P m h' Cs' _ _ _ _
      (λ t.
      record {
        alike = grown-alike m.heap h' (map new_cell fs) a;
        kept = λ p s. grown-agrees m.heap h' (map new_cell fs) p a s;
        moved = stays refl refl refl;
      }))

  call_same : (y : ℕ) (M : Method) (z : ℕ) → Same (call_step y M z)
  unfolding call_step call_frame entered took
  call_same y M z =
      same_check P m h' Cs' _ _ _ _
      (λ t.
      rw (footprint-same m.heap h' (call_frame m M y z) A M.requires, l)
      (same-bind P m h' Cs' (footprint m.heap (call_frame m M y z) M.requires) _ _
      (λ B e.
      same_check P m h' Cs' _ _ _ _ (λ u. record { alike = a; kept = λ p s. s; moved = enters _ refl refl refl }))))

  assert-same : (φ : Formula ℕ) → Same (assert_step φ)
  unfolding assert_step took
  assert-same φ =
      rw (footprint-same m.heap h' m.frame A φ)
      (same-bind P m h' Cs' (footprint m.heap m.frame φ) _ _ (λ B e. same-frame _))

  release-same : (φ : Formula ℕ) → Same (release_step φ)
  unfolding release_step took
  release-same φ =
      rw (footprint-same m.heap h' m.frame A φ)
      (same-bind P m h' Cs' (footprint m.heap m.frame φ) _ _ (λ B e. same-frame _))

  open-same : (y x f : ℕ) → Same (open_step y x f)
  unfolding open_step took take_walk
  open-same y x f =
      same_check P m h' Cs' _ _ _ _
      (λ t.
      rw (take_walk-same m.heap h' m.frame A f (value_of m.frame x) [])
      (same-bind P m h' Cs' (take_walk m.heap m.frame f (value_of m.frame x) []) _ _
      (λ B e.
      let o : ℕ = value_of m.frame x in
      let (ws, q, _) = bind_ok (walk m.heap m.frame [] f (length m.frame.held) o []) e in
      let n : o ≡ 0 → ⊥ = λ z. T_not (eqb o 0) t (subst (λ v. T (eqb v 0)) (sym z) tt) in
      let s : SameAt m.heap h' (record { object = o; field = f }) =
      A (record { object = o; field = f }) (first-held m.heap m.frame f (length m.frame.held) o ws n q) in
      rw s (same-frame _))))

  shut-same : (x f : ℕ) → Same (shut_step x f)
  unfolding shut_step took
  shut-same x f =
      rw (value_same m.heap h' m.frame A (path x f))
      (same-bind P m h' Cs' (value m.heap m.frame (path x f)) _ _
      (λ v d.
      rw (take_walk-same m.heap h' m.frame A f v [])
      (same-bind P m h' Cs' (take_walk m.heap m.frame f v []) _ _
      (λ B e. same-bind P m h' Cs' (locate m.frame B 2 x f) _ _ (λ p q. same-frame _)))))

  choose-same : (n : Rel) (b c : Expr ℕ) (i j : ℕ) → Same (choose n b c i j)
  unfolding choose took
  choose-same n b c i j =
      rw (value_same m.heap h' m.frame A b, value_same m.heap h' m.frame A c)
      (same-bind P m h' Cs' (value m.heap m.frame b) _ _
      (λ v d. same-bind P m h' Cs' (value m.heap m.frame c) _ _ (λ w e. same-frame _)))

  loop-same : (n : Rel) (b c : Expr ℕ) (φ : Formula ℕ) → Same (loop_step P.rows n b c φ)
  unfolding loop_step if_step
  loop-same n b c φ =
      rw (footprint-same m.heap h' m.frame A φ)
      (same-bind P m h' Cs' (footprint m.heap m.frame φ) _ _ (λ B e. choose-same n b c _ _))

  -- `end` or `return`: F is the frame that ends, with the set of the one that ran
  end_same :
      (F : Frame) → F.held ≡ m.frame.held → (Cs Ds : List Frame) → m.callers ≡ Cs → Cs' ≡ Ds → length Ds ≡ length Cs →
      SameStep P m h' Cs' (end_step P (with_frame m F) Cs) (end_step P (with_frame (other h' Cs' m) F) Ds)
  unfolding end_step returned took with_frame resume
  end_same F e [] [] c d n = tt
  end_same F e [] (C' ∷ Ds) c d n = absurd (omega (arith, n))
  end_same F e (C ∷ Cs) [] c d n = absurd (omega (arith, n))
  end_same F e (C ∷ Cs) (C' ∷ Ds) c d n =
      let B : AgreeOn m.heap h' F = λ p i. A p (subst (λ (H : List Location). 1 ≤ halves H p) e i) in
      rw (footprint-same m.heap h' F B F.ensures)
      (same-bind P m h' Cs' (footprint m.heap F F.ensures) _ _
      (λ D q.
      record {
        alike = a;
        kept = λ p s. s;
        moved =
            returns C C' (value_of F result_variable) D c d refl refl
            (λ p. subst (λ (H : List Location). halves D p ≤ halves H p) e (footprint-held m.heap F F.ensures D q p));
      }))

  simple-same : (p : Simple) → Same (simple_step room P p)
  unfolding simple_step
  simple-same (set x f y) = set_same x f y
  simple-same (assign x e) = assign-same x e
  simple-same (compute o x y z) = compute-same o x y z
  simple-same (new x c) = new-same x (get_or P.classes c [])
  simple-same (call x y n z) = call_same y (method_numbered P n) z
  simple-same (assert φ) = assert-same φ
  simple-same (release φ) = release-same φ
  simple-same (open_chain y x f) = open-same y x f
  simple-same (shut_chain x f) = shut-same x f

  step_at-same : (s : Stmt) → SameStep P m h' Cs' (step_at room P s m) (step_at room P s (other h' Cs' m))
  unfolding step_at if_step else_step again_step return_step with_frame
  step_at-same (simple p) = simple-same p
  step_at-same (return x) =
      end_same (bind result_variable (value_of m.frame x) m.frame) (bind_held _ _ _) m.callers Cs' refl refl l
  step_at-same (if n b c) = choose-same n b c _ _
  step_at-same else = same-frame _
  step_at-same (join φ) = assert-same φ
  step_at-same (loop n b c φ) = loop-same n b c φ
  step_at-same again = same-frame _
  step_at-same end = end_same m.frame refl m.callers Cs' refl refl l

  pub step_same : SameStep P m h' Cs' (step room P m) (step room P (other h' Cs' m))
  unfolding step
  step_same = step_at-same (statement_of P m.frame)
