-- What a licensing office reads of W13, and the sources' theorems on frames: the statements are those of specs/Handed.
use mathlib.Core.Path.{◌≡◌, refl, sym, ap, ◌∙◌, subst}
use mathlib.Core.List.{List, [], ◌∷◌, ◌++◌}
use mathlib.Core.Logic.{◌⊎◌, inl, inr, ⊎_elim}
use Prim.Native.Nat.{ℕ, zero, suc, ◌+◌, ◌-◌, ◌≤◌, ◌<◌}
use native.Mathlib.Omega.{arith}
use lib.Dec.{ltb, ltb→lt, nltb→le, not_T}
use lib.ListN.{length}
use Rattle.rules.specs.Base.{ok}
use Rattle.rules.specs.Answers.{Verdict, Ending, finished, steps_taken, stopped}
use Rattle.rules.specs.Syntax.{Program, Method, method_numbered}
use Rattle.rules.specs.Items.{Item}
use Rattle.rules.specs.Reading.{program}
use Rattle.rules.specs.Calls.{trial_text, run_items, outcome_result, whole_heap}
use Rattle.rules.specs.Machine.{Config, Frame, Heap, Location, Room, ends, halves, value_at, object, call_frame, entered, holding, footprint, start, on, step, run, go_on, run_program}
use Rattle.rules.specs.Runs.{EndedBy, depth, locations, handed_over, Run, Existed}
use Rattle.rules.proofs.Lists.{cons_head, cons_tail, decide_eq, decide-test}
use Rattle.rules.proofs.Changes.{holds, step-enters, call_enters}
use Rattle.rules.proofs.Disjoint.{two-halves, held-exists}
use Rattle.rules.proofs.Sets.{halves-without}
use Rattle.soundness.proofs.Demand3.{same-from-both}
use Rattle.soundness.proofs.FrameKept.{frame-kept}
use Rattle.unseen.specs.Unseen.{SameAt, Agree, Leaving, left, halted, method_part, goes_on, resume, Resumed, SameReturn, SameHalt, LeftAlike}
use Rattle.unseen.specs.Handed.{AnswersAlike, SameAnswer, Halts, SameAnswered, SameCall, Calls, FunctionOfHanded, TwoCatalogues, DependOnHeld, FrameSeparation}
use Rattle.unseen.proofs.SameSteps.{value_same, footprint-same}
use Rattle.unseen.proofs.SameParts.{unseen, part-of-run}

-- WHERE THE CALLERS AGREE TOO

ends_same :
    (P : Program) (m m' e e' : Config) (s s' : Ending) (n : ℕ) → m'.callers ≡ m.callers → SameHalt m m' s s' e e' →
    ends P s' n e' ≡ ends P s n e
unfolding ends
ends_same P m m' e e' s s' n c S =
    let callers : e'.callers ≡ e.callers =
    S.callers' ∙ (ap (λ (Fs : List Frame). S.above ++ Fs) c ∙ sym S.callers) in
    rw (S.stop, S.frame, callers) refl

left-same : (P : Program) (m m' e e' : Config) → m'.callers ≡ m.callers → SameReturn P m m' e e' → (e'.frame ≡ e.frame) × (e'.callers ≡ e.callers)
left-same P m m' e e' c R =
    let D : Resumed P R.result R.back m e = R.resumed in
    let D' : Resumed P R.result R.back m' e' = R.resumed' in
    let both : D'.caller ∷ D'.others ≡ D.caller ∷ D.others = sym D'.callers ∙ (c ∙ D.callers) in (
      D'.frame ∙ (ap (λ (C : Frame). resume P C R.result R.back) (cons_head both) ∙ sym D.frame),
      D'.rest ∙ (cons_tail both ∙ sym D.rest),
    )

pub same_answer : (room : Room) (P : Program) → SameAnswer room P
same_answer room P m m' agree c k n =
    go (method_part room P k m).leaving (method_part room P k m').leaving (unseen room P m m' agree k).leaving
  where
    go : (l l' : Leaving) → LeftAlike P m m' l l' → AnswersAlike P n l l'
    go (left e) (left e') R = left-same P m m' e e' c R
    go (left e) (halted s' e') R = R
    go (halted s e) (left e') R = R
    go (halted s e) (halted s' e') S = ends_same P m m' e e' s s' n c S

-- two parts that halt so, with as many steps: one answer, whatever comes before them
halted-same :
    (room : Room) (P : Program) (m m' : Config) (k n c : ℕ) (l l' : Leaving) → m'.callers ≡ m.callers → Halts l → LeftAlike P m m' l l' →
    goes_on room P k n c l' ≡ goes_on room P k n c l
unfolding goes_on
halted-same room P m m' k n c (left e) l' w H R = absurd H
halted-same room P m m' k n c (halted s e) (left e') w H R = absurd R
halted-same room P m m' k n c (halted s e) (halted s' e') w H S = ends_same P m m' e e' s s' (n + c) w S

run-same :
    (room : Room) (P : Program) (m m' : Config) → Agree m m' → m'.callers ≡ m.callers → (k n : ℕ) → Halts (method_part room P k m).leaving →
    run room P k n m' ≡ run room P k n m
run-same room P m m' agree w k n H =
    let same = unseen room P m m' agree k in
    let l' : Leaving = (method_part room P k m').leaving in
    part-of-run room P m' k n
    ∙ (ap (λ (c : ℕ). goes_on room P k n c l') same.count
    ∙ (halted-same room P m m' k n (method_part room P k m).count (method_part room P k m).leaving l' w H same.leaving
    ∙ sym (part-of-run room P m k n)))

-- a run goes on from each of its states
module _ (room : Room) (P : Program) {k : ℕ} (R : Run room P k) where
  most-steps : (s : Ending) → EndedBy room P k R.steps (R.state R.steps) s → R.steps ≤ k
  most-steps finished e = omega (arith, e.0)
  most-steps steps_taken e = omega (arith, e)
  most-steps (stopped s) e = omega (arith, e.0)

  run_on : (j n : ℕ) (m m' : Config) → step room P m ≡ on m' → run room P (suc j) n m ≡ run room P j (suc n) m'
  unfolding run go_on
  run_on j n m m' e = rw e refl

  run-from : (i : ℕ) → i ≤ R.steps → run room P k 0 (start P) ≡ run room P (k - i) i (R.state i)
  run-from zero l =
      let all : k ≡ k - 0 = omega arith in
      ap (λ (j : ℕ). run room P j 0 (start P)) all ∙ ap (λ (m : Config). run room P (k - 0) 0 m) (sym R.first)
  run-from (suc i) l =
      let one : k - i ≡ suc (k - suc i) = omega (arith, l, most-steps R.ending R.has_ended) in
      run-from i (omega (arith, l))
      ∙ (ap (λ (j : ℕ). run room P j i (R.state i)) one ∙ run_on (k - suc i) i (R.state i) (R.state (suc i)) (R.next i l))

pub same-answered : SameAnswered
unfolding trial_text run_items run_program
same-answered t items e k R i C m' agree w H =
    let P : Program = program items in
    let trial : outcome_result (run whole_heap P (k - suc i) (suc i) m') ≡ trial_text t k =
    ap outcome_result (run-same whole_heap P (R.state (suc i)) m' agree w (k - suc i) (suc i) H ∙ sym (run-from whole_heap P R (suc i) C.is_done))
    ∙ ap (λ (v : Verdict (List Item)). run_items whole_heap v k) (sym e) in
    (trial, λ c. trial ∙ sym (same-from-both t c k))

-- TWO CATALOGUES

no-callers : (Fs : List Frame) → length Fs ≡ 0 → Fs ≡ []
no-callers [] e = refl
no-callers (F ∷ Fs) e = absurd (omega (arith, e))

-- main's part is its run: it returns to nobody
main-halts : (room : Room) (P : Program) (m m' : Config) → m.callers ≡ [] → (l l' : Leaving) → LeftAlike P m m' l l' → Halts l
main-halts room P m m' alone (left e) (left e') R =
    absurd (omega (arith, ap (λ (Fs : List Frame). length Fs) (sym alone ∙ R.resumed.callers)))
main-halts room P m m' alone (left e) (halted s' e') R = absurd R
main-halts room P m m' alone (halted s e) l' R = tt

pub two-catalogues : TwoCatalogues
unfolding depth
two-catalogues t items e room m m' alone agree k n =
    let P : Program = program items in
    let alone' : m'.callers ≡ [] = no-callers m'.callers (agree.calls ∙ ap (λ (Fs : List Frame). length Fs) alone) in
    run-same room P m m' agree (alone' ∙ sym alone) k n
    (main-halts room P m m' alone (method_part room P k m).leaving (method_part room P k m').leaving (unseen room P m m' agree k).leaving)

-- A FUNCTION OF WHAT IS HANDED OVER

-- the state after a `call` step: the heap as it was, the frame with what is handed over
pub handed-is :
    (P : Program) (m : Config) (y n z : ℕ) (A : List Location) →
    footprint m.heap (call_frame m (method_numbered P n) y z) (method_numbered P n).requires ≡ ok A → handed_over P m y n z ≡ A
unfolding handed_over locations
handed-is P m y n z A e = rw e refl

pub call-after :
    (room : Room) (P : Program) (m a : Config) (y n z : ℕ) → Calls room P m a y n z →
    a ≡ entered m (call_frame m (method_numbered P n) y z) (handed_over P m y n z)
call-after room P m a y n z C =
    let M : Method = method_numbered P n in
    let (A, f, e) = call_enters y M z m a (step-enters room P C.x y n z m a C.is_call C.is_done) in
    e ∙ ap (entered m (call_frame m M y z)) (sym (handed-is P m y n z A f))

entered-agree :
    (P : Program) (n : ℕ) (m : Config) (y z : ℕ) (m' : Config) (y' z' : ℕ) → SameCall P n m y z m' y' z' →
    Agree (entered m (call_frame m (method_numbered P n) y z) (handed_over P m y n z))
    (entered m' (call_frame m' (method_numbered P n) y' z') (handed_over P m' y' n z'))
unfolding entered call_frame holding depth
entered-agree P n m y z m' y' z' S =
    record {
      frame = rw (S.receiver, S.argument, S.handed) refl;
      calls = ap suc S.calls;
      alike = S.alike;
      permitted = λ p i. S.values p i;
    }

pub function-of-handed : FunctionOfHanded
function-of-handed t items e room n m a y z m' a' y' z' C C' S k =
    let P : Program = program items in
    unseen room P a a'
    (rw (call-after room P m a y n z C, call-after room P m' a' y' n z' C') (entered-agree P n m y z m' y' z' S)) k

-- FRAMES

pub depend-on-held : DependOnHeld
depend-on-held h h' F A = (value_same h h' F A, footprint-same h h' F A)

below : (a b : ℕ) → (a ≤ b) ⊎ (b < a)
below a b = ⊎_elim (λ t. inr (ltb→lt b a t)) (λ t. inl (nltb→le b a (not_T (ltb b a) t))) (decide-test (ltb b a))

null-same : (h h' : Heap) (f : ℕ) → value_at h' 0 f ≡ value_at h 0 f
unfolding value_at object
null-same h h' f = refl

-- an object of the heap was made by a step
module _ (room : Room) (P : Program) {k : ℕ} (R : Run room P k) where
  start-empty : length (start P).heap ≡ 0
  unfolding start
  start-empty = refl

  was-made : (i o : ℕ) → 1 ≤ o → o ≤ length (R.state i).heap → Existed room P R i o
  was-made zero o l u = absurd (omega (arith, l, u, ap (λ (m : Config). length m.heap) R.first, start-empty))
  was-made (suc i) o l u =
      ⊎_elim
      (λ b. let (j, c, made) = was-made i o l b in (j, omega (arith, c), made))
      (λ b. (i, omega arith, (b, u)))
      (below o (length (R.state i).heap))

-- what the caller keeps of a `call` step
kept-held :
    (m : Config) (F : Frame) (A : List Location) (G : Frame) (Gs : List Frame) → (entered m F A).callers ≡ G ∷ Gs → (p : Location) →
    holds G p ≡ holds m.frame p - halves A p
unfolding entered holding
kept-held m F A G Gs e p = ap (λ (C : Frame). holds C p) (sym (cons_head e)) ∙ halves-without A m.frame.held p

-- has its value up to the call's end
pub frame-separation : FrameSeparation
frame-separation t items e room k R i C j D G Gs c = (value_same h h' G same, footprint-same h h' G same)
  where
    P : Program
    P = program items

    m : Config
    m = R.state i

    h : Heap
    h = m.heap

    h' : Heap
    h' = (R.state j).heap

    A : List Location
    A = handed_over P m C.y C.method C.z

    after : R.state (suc i) ≡ entered m (call_frame m (method_numbered P C.method) C.y C.z) A
    after =
        call-after room P m (R.state (suc i)) C.y C.method C.z
        (record { x = C.x; is_call = C.is_call; is_done = R.next i C.is_done })

    same : (p : Location) → 1 ≤ holds G p → SameAt h h' p
    same p l =
        let kept : holds G p ≡ holds m.frame p - halves A p =
        kept-held m _ A G Gs (ap (λ (w : Config). w.callers) (sym after) ∙ c) p in
        let i≤ : i ≤ R.steps = omega (arith, C.is_done) in
        ⊎_elim
        (λ (z : p.object ≡ 0). subst (λ (o : ℕ). value_at h' o p.field ≡ value_at h o p.field) (sym z) (null-same h h' p.field))
        (λ (z : p.object ≡ 0 → ⊥).
        frame-kept room P R i C j D p.object p.field
        (was-made room P R i p.object (omega (arith, z)) (held-exists room P R i i≤ p (omega (arith, l, kept))))
        (omega (arith, l, kept, two-halves room P R i i≤ p)))
        (decide_eq p.object 0)
