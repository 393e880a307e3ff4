-- A method's part of a run is the same from two states that agree on what the method holds.
use mathlib.Core.Path.{◌≡◌, refl, sym, ap, ap₂, ◌∙◌, subst}
use mathlib.Core.Bool.{Bool, true, false, cond}
use mathlib.Core.List.{List, [], ◌∷◌, ◌++◌}
use mathlib.Core.Logic.{◌⊎◌, inl, inr, ⊎_elim}
use Prim.Native.Nat.{ℕ, zero, suc, ◌+◌, ◌-◌, ◌≤◌, ◌<◌}
use native.Mathlib.Omega.{arith}
use native.Mathlib.Nat.{le_refl}
use lib.Dec.{T, ltb, ltb→lt, nltb→le, not_T}
use lib.ListN.{length, length-append}
use Rattle.rules.specs.Answers.{Ending, finished, steps_taken, stopped}
use Rattle.rules.specs.Syntax.{Program, row_numbered}
use Rattle.rules.specs.Machine.{Config, Frame, Heap, Location, Room, Step, on, stop, done, step, run, go_on, ends, halves, advance, jump, bind, holding}
use Rattle.rules.specs.Reading.{program}
use Rattle.rules.specs.Runs.{depth}
use Rattle.rules.proofs.Lists.{cons_head, cons_tail, decide_eq}
use Rattle.rules.proofs.Changes.{holds, Entering, Change, within, entering, returning, change-within, step-changes}
use Rattle.rules.proofs.Sets.{halves-append}
use Rattle.unseen.specs.Unseen.{classes_of, SameAt, Agree, Leaving, left, halted, Part, no_step, one_more, line_of, part_on, part, method_part, goes_on, resume, SameReturn, SameHalt, SameSeen, Unseen, PartOfRun, NotHandedNotSeen}
use Rattle.unseen.proofs.Shapes.{absent-agrees}
use Rattle.unseen.proofs.SameSteps.{Moved, stays, enters, returns, Twins, SameStep, step_same}

lengths : {Fs Gs : List Frame} → Fs ≡ Gs → length Fs ≡ length Gs
lengths e = ap (λ (Fs : List Frame). length Fs) e

-- a step that adds a caller enters a call, and one that takes a caller away returns from one
change-entering : (m m' : Config) (C : Frame) → Change m m' → m'.callers ≡ C ∷ m.callers → Entering m m'
change-entering m m' C (within W) e = absurd (omega (arith, lengths (sym e ∙ W.callers)))
change-entering m m' C (entering N) e = N
change-entering m m' C (returning R) e = absurd (omega (arith, lengths R.callers, lengths e))

resume-held : (P : Program) (C : Frame) (r : ℕ) (A : List Location) (p : Location) → holds (resume P C r A) p ≡ holds C p + halves A p
unfolding resume advance jump bind holding
resume-held P C r A p = halves-append C.held A p

change-heap : (m m' : Config) (C : Frame) → Change m m' → m.callers ≡ C ∷ m'.callers → m'.heap ≡ m.heap
change-heap m m' C (within W) e = absurd (omega (arith, lengths (e), lengths W.callers))
change-heap m m' C (entering N) e = N.heap
change-heap m m' C (returning R) e = R.heap

-- WHILE THE METHOD RUNS

-- m₀ and m₀': the states at its first line
module _ (P : Program) (m₀ m₀' : Config) (agree : Agree m₀ m₀') where
  -- the heaps agreed there on all that the frame holds
  abbrev Safe : Frame → Type 0
  Safe F = (p : Location) → 1 ≤ holds F p → SameAt m₀.heap m₀'.heap p

  abbrev AllSafe : List Frame → Type 0
  AllSafe [] = Unit {0}
  AllSafe (F ∷ Fs) = Safe F × AllSafe Fs

  -- above the callers of the first line both have the same frames, each of them safe
  record Inside (m m' : Config) : Type 0 where
    frame : m'.frame ≡ m.frame
    alike : classes_of m'.heap ≡ classes_of m.heap
    kept : (p : Location) → SameAt m₀.heap m₀'.heap p → SameAt m.heap m'.heap p
    grows : length m₀.heap ≤ length m.heap
    safe : Safe m.frame
    inner : List Frame
    callers : m.callers ≡ inner ++ m₀.callers
    callers' : m'.callers ≡ inner ++ m₀'.callers
    inner-safe : AllSafe inner

  as_many : (m m' : Config) → Inside m m' → length m'.callers ≡ length m.callers
  unfolding depth
  as_many m m' I =
      omega (
        arith,
        agree.calls,
        lengths I.callers,
        lengths I.callers',
        length-append I.inner m₀.callers,
        length-append I.inner m₀'.callers,
      )

  inside-step : (room : Room) (m m' : Config) → Inside m m' → SameStep P m m'.heap m'.callers (step room P m) (step room P m')
  inside-step room m m' I =
      subst (λ (w : Config). SameStep P m m'.heap m'.callers (step room P m) (step room P w))
      (λ i. record { heap = m'.heap; frame = sym I.frame i; callers = m'.callers })
      (step_same room P m m'.heap m'.callers I.alike (as_many m m' I) (λ p i. I.kept p (I.safe p i)))

  -- after a step: it is still inside, or it has returned to the caller of the first line
  abbrev After : Config → Config → Type 0
  After a b =
      (Inside a b × (length m₀.callers ≤ length a.callers))
      ⊎ (SameReturn P m₀ m₀' a b × (length a.callers < length m₀.callers))

  module _ (m m' a b : Config) (I : Inside m m') (w : Twins P m m'.heap m'.callers a b) where
    kept_on : (p : Location) → SameAt m₀.heap m₀'.heap p → SameAt a.heap b.heap p
    kept_on p s = w.kept p (I.kept p s)

    go-on :
        b.frame ≡ a.frame → length m₀.heap ≤ length a.heap → Safe a.frame → (inner : List Frame) →
        a.callers ≡ inner ++ m₀.callers → b.callers ≡ inner ++ m₀'.callers → AllSafe inner → After a b
    go-on f g s i c c' t =
        inl (
          record {
            frame = f;
            alike = w.alike;
            kept = kept_on;
            grows = g;
            safe = s;
            inner = i;
            callers = c;
            callers' = c';
            inner-safe = t;
          },
          omega (arith, lengths c, length-append i m₀.callers),
        )

    stays-inside : Change m a → b.frame ≡ a.frame → a.callers ≡ m.callers → b.callers ≡ m'.callers → After a b
    stays-inside c f e e' =
        let W = change-within m a c e in
        go-on f (omega (arith, I.grows, W.grows))
        (λ p i.
        ⊎_elim (λ j. I.safe p (omega (arith, i, j)))
        (λ n. absent-agrees m₀.heap m₀'.heap p agree.alike (omega (arith, n.new, I.grows))) (W.gains p))
        I.inner (e ∙ I.callers) (e' ∙ I.callers') I.inner-safe

    enters-inside :
        Change m a → (C : Frame) → b.frame ≡ a.frame → a.callers ≡ C ∷ m.callers → b.callers ≡ C ∷ m'.callers → After a b
    enters-inside c C f e e' =
        let N = change-entering m a C c e in
        let is : (p : Location) → holds N.caller p ≡ holds C p =
        λ p. ap (λ (F : Frame). holds F p) (cons_head (sym N.callers ∙ e)) in
        go-on f (subst (λ (h : Heap). length m₀.heap ≤ length h) (sym N.heap) I.grows)
        (λ p i. I.safe p (omega (arith, i, N.divided p)))
        (C ∷ I.inner) (e ∙ ap (λ (Fs : List Frame). C ∷ Fs) I.callers) (e' ∙ ap (λ (Fs : List Frame). C ∷ Fs) I.callers')
        (λ p i. I.safe p (omega (arith, i, N.divided p, is p)), I.inner-safe)

    -- back in a frame above the callers of the first line, or in the nearest of these
    returns_to :
        Change m a → (C C' : Frame) (r : ℕ) (A : List Location) → m.callers ≡ C ∷ a.callers → m'.callers ≡ C' ∷ b.callers →
        a.frame ≡ resume P C r A → b.frame ≡ resume P C' r A → ((p : Location) → halves A p ≤ holds m.frame p) → After a b
    returns_to c C C' r A e e' f f' own = go I.inner I.callers I.callers' I.inner-safe
      where
        agreed : (p : Location) → 1 ≤ halves A p → SameAt m₀.heap m₀'.heap p
        agreed p i = I.safe p (omega (arith, i, own p))

        go :
            (inner : List Frame) → m.callers ≡ inner ++ m₀.callers → m'.callers ≡ inner ++ m₀'.callers → AllSafe inner → After a b
        go [] s s' t =
            inr (
              record {
                result = r;
                back = A;
                resumed = record { caller = C; others = a.callers; callers = sym s ∙ e; frame = f; rest = refl };
                resumed' = record { caller = C'; others = b.callers; callers = sym s' ∙ e'; frame = f'; rest = refl };
                values_back = λ p i. kept_on p (agreed p i);
                kept = kept_on;
                alike = w.alike;
              },
              omega (arith, lengths (sym s ∙ e)),
            )
        go (D ∷ inner) s s' t =
            let is : C ≡ D = cons_head (sym e ∙ s) in
            let is' : C' ≡ C = cons_head (sym e' ∙ s') ∙ sym is in
            go-on (f' ∙ (ap (λ (F : Frame). resume P F r A) is' ∙ sym f))
            (subst (λ (h : Heap). length m₀.heap ≤ length h) (sym (change-heap m a C c e)) I.grows)
            (λ p i.
            let sum : holds a.frame p ≡ holds C p + halves A p = ap (λ (F : Frame). holds F p) f ∙ resume-held P C r A p in
            ⊎_elim
            (λ (z : holds C p ≡ 0). agreed p (omega (arith, i, sum, z)))
            (λ (z : holds C p ≡ 0 → ⊥). t.0 p (omega (arith, z, ap (λ (F : Frame). holds F p) is)))
            (decide_eq (holds C p) 0))
            inner (cons_tail (sym e ∙ s)) (cons_tail (sym e' ∙ s')) t.1

    moved-after : Change m a → Moved P m.frame m.callers m'.callers a b → After a b
    moved-after c (stays f e e') = stays-inside c f e e'
    moved-after c (enters C f e e') = enters-inside c C f e e'
    moved-after c (returns C C' r A e e' f f' own) = returns_to c C C' r A e e' f f' own

  -- both have the same count of callers after it
  after-depth : (a b : Config) → After a b → depth b ≡ depth a
  unfolding depth
  after-depth a b (inl (I, l)) = as_many a b I
  after-depth a b (inr (R, l)) =
      omega (
        arith,
        agree.calls,
        lengths R.resumed.callers,
        lengths R.resumed.rest,
        lengths R.resumed'.callers,
        lengths R.resumed'.rest,
      )

  inside-halted : (s : Ending) (m m' : Config) → Inside m m' → SameHalt m₀ m₀' s s m m'
  inside-halted s m m' I =
      record { stop = refl; frame = I.frame; above = I.inner; callers = I.callers; callers' = I.callers' }

  line_same : (m m' : Config) → Inside m m' → line_of P m' ≡ line_of P m
  unfolding line_of
  line_same m m' I = ap (λ (F : Frame). (row_numbered P F.row).line) I.frame

-- THE CLAIM

module _ (room : Room) (P : Program) (m₀ m₀' : Config) (agree : Agree m₀ m₀') where
  -- what is seen from the states m and m' on, with k steps allowed
  abbrev SameFrom : ℕ → Config → Config → Type 0
  SameFrom k m m' = SameSeen P m₀ m₀' (part room P (depth m₀) k m) (part room P (depth m₀) k m')

  more_same :
      (l l' : ℕ) (p p' : Part) → l' ≡ l → SameSeen P m₀ m₀' p p' → SameSeen P m₀ m₀' (one_more l p) (one_more l' p')
  unfolding one_more
  more_same l l' p p' e s = record { lines = rw (e, s.lines) refl; count = ap suc s.count; leaving = s.leaving }

  part_same : (k : ℕ) (m m' : Config) → Inside P m₀ m₀' agree m m' → SameFrom k m m'
  unfolding part part_on no_step depth
  part_same zero m m' I =
      record { lines = refl; count = refl; leaving = inside-halted P m₀ m₀' agree steps_taken m m' I }
  part_same (suc k) m m' I =
      go (step room P m) (step room P m') refl (inside-step P m₀ m₀' agree room m m' I) (λ a b J. part_same k a b J)
    where
      same_line : line_of P m' ≡ line_of P m
      same_line = line_same P m₀ m₀' agree m m' I

      chosen :
          (a b : Config) (c : Bool) → T c ≡ T (ltb (depth a) (depth m₀)) → After P m₀ m₀' agree a b → (Inside P m₀ m₀' agree a b → SameFrom k a b) →
          SameSeen P m₀ m₀' (cond c (no_step (left a)) (part room P (depth m₀) k a)) (cond c (no_step (left b)) (part room P (depth m₀) k b))
      chosen a b true t (inl (J, l)) ih = absurd (let u = ltb→lt (depth a) (depth m₀) (subst (λ (X : Type 0). X) t tt) in omega (arith, l, u))
      chosen a b true t (inr (R, l)) ih = record { lines = refl; count = refl; leaving = R }
      chosen a b false t (inl (J, l)) ih = ih J
      chosen a b false t (inr (R, l)) ih = absurd (let u = nltb→le (depth a) (depth m₀) (not_T (ltb (depth a) (depth m₀)) (λ z. subst (λ (X : Type 0). X) (sym t) z)) in omega (arith, l, u))

      go :
          (s t : Step) → step room P m ≡ s → SameStep P m m'.heap m'.callers s t →
          ((a b : Config) → Inside P m₀ m₀' agree a b → SameFrom k a b) →
          SameSeen P m₀ m₀' (part_on P s (depth m₀) m (λ w. part room P (depth m₀) k w))
          (part_on P t (depth m₀) m' (λ w. part room P (depth m₀) k w))
      go (on a) (on b) e w ih =
          let A : After P m₀ m₀' agree a b = moved-after P m₀ m₀' agree m m' a b I w (step-changes room P m a e) w.moved in
          more_same _ _ _ _ same_line
          (rw (after-depth P m₀ m₀' agree a b A) (chosen a b (ltb (depth a) (depth m₀)) refl A (ih a b)))
      go (on a) (stop t) e w ih = absurd w
      go (on a) done e w ih = absurd w
      go (stop s) (on b) e w ih = absurd w
      go (stop s) (stop t) e w ih =
          rw w (record { lines = refl; count = refl; leaving = inside-halted P m₀ m₀' agree (stopped s) m m' I })
      go (stop s) done e w ih = absurd w
      go done (on b) e w ih = absurd w
      go done (stop t) e w ih = absurd w
      go done done e w ih =
          more_same _ _ _ _ same_line
          (record { lines = refl; count = refl; leaving = inside-halted P m₀ m₀' agree finished m m' I })

-- "From the first line of that method to its end, a stop or 21, both .. take the same lines, with equal results, an equal count of steps
-- and the same stop."
pub unseen : (room : Room) (P : Program) → Unseen room P
unfolding method_part
unseen room P m m' agree k =
    rw agree.calls
    (part_same room P m m' agree k m m'
    (record {
      frame = agree.frame;
      alike = agree.alike;
      kept = λ p s. s;
      grows = le_refl _;
      safe = λ p i. agree.permitted p i;
      inner = [];
      callers = refl;
      callers' = refl;
      inner-safe = tt;
    }))

-- A PART OF THE RUN

module _ (room : Room) (P : Program) where
  goes-on-none : (k n : ℕ) (a : Config) → run room P k n a ≡ goes_on room P k n 0 (left a)
  unfolding goes_on
  goes-on-none k n a =
      let less : k ≡ k - 0 = omega arith in
      let more : n ≡ n + 0 = omega arith in ap₂ (λ (j i : ℕ). run room P j i a) less more

  goes-on-more :
      (k n c : ℕ) (l : Leaving) → goes_on room P k (suc n) c l ≡ goes_on room P (suc k) n (suc c) l
  unfolding goes_on
  goes-on-more k n c (left e) = ap₂ (λ (j i : ℕ). run room P j i e) (omega arith) (omega arith)
  goes-on-more k n c (halted s e) = ap (λ (i : ℕ). ends P s i e) (omega arith)

  -- the run from a goes on as this part says
  abbrev Is : ℕ → ℕ → Config → Part → Type 0
  Is k n a p = run room P k n a ≡ goes_on room P k n p.count p.leaving

  part-run : (d k n : ℕ) (m : Config) → Is k n m (part room P d k m)
  unfolding run part part_on go_on no_step one_more goes_on
  part-run d zero n m = ap (λ (i : ℕ). ends P steps_taken i m) (omega arith)
  part-run d (suc k) n m = go (step room P m) (λ a. part-run d k (suc n) a)
    where
      pick : (a : Config) (c : Bool) → Is k (suc n) a (part room P d k a) → Is k (suc n) a (cond c (no_step (left a)) (part room P d k a))
      pick a true e = goes-on-none k (suc n) a
      pick a false e = e

      more : (a : Config) (p : Part) → Is k (suc n) a p → run room P k (suc n) a ≡ goes_on room P (suc k) n (suc p.count) p.leaving
      more a p e = e ∙ goes-on-more k n p.count p.leaving

      go :
          (s : Step) → ((a : Config) → Is k (suc n) a (part room P d k a)) →
          go_on P s n m (λ a. run room P k (suc n) a)
          ≡ goes_on room P (suc k) n (part_on P s d m (λ a. part room P d k a)).count (part_on P s d m (λ a. part room P d k a)).leaving
      go (on a) ih = more a (cond (ltb (depth a) d) (no_step (left a)) (part room P d k a)) (pick a (ltb (depth a) d) (ih a))
      go (stop s) ih = ap (λ (i : ℕ). ends P (stopped s) i m) (omega arith)
      go done ih = ap (λ (i : ℕ). ends P finished i m) (omega arith)

pub part-of-run : (room : Room) (P : Program) → PartOfRun room P
unfolding method_part
part-of-run room P m k n = part-run room P (depth m) k n m

-- What a called method is not handed it does not see, whatever the text that the reader takes.
pub not-handed-not-seen : NotHandedNotSeen
not-handed-not-seen t items e room = (unseen room (program items), part-of-run room (program items))
