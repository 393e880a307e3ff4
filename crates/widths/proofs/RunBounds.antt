-- Bounds of a run: its line is one of the text, its steps are those allowed, and its twelve values fit 32 bits.
use mathlib.Core.Path.{◌≡◌, refl, subst}
use mathlib.Core.Bool.{Bool, true, false, not, cond, ◌&&◌}
use mathlib.Core.List.{List, [], ◌∷◌, ◌++◌, map}
use Prim.Native.Nat.{ℕ, zero, suc, ◌+◌, ◌≤◌}
use native.Mathlib.Omega.{arith}
use lib.Dec.{eqb, ltb, leb, ltb→lt}
use lib.ListN.{length, get_or, take, drop, replicate, length-drop}
use lib.Seq.{length-take-le}
use Rattle.rules.specs.Base.{ok}
use Rattle.rules.specs.Limits.{most_frames}
use Rattle.rules.specs.Answers.{Ending, finished, steps_taken, stopped, heap_full, frames_full, null_followed, overflow}
use Rattle.rules.specs.Syntax.{Expr, Formula, Operation, Stmt, Simple, Row, Field, Method, Program, num, null, var, path}
use Rattle.rules.specs.Syntax.{set, assign, compute, new, call, return, assert, release, open_chain, shut_chain, simple, if, else, join, loop, again, end}
use Rattle.rules.specs.Syntax.{no_row, row_numbered, method_numbered, result_variable}
use Rattle.rules.specs.Machine as Machine
use Rattle.rules.specs.Machine.{Cell, Heap, Location, Frame, Config, Room, Step, Outcome, on, stop, done}
use Rattle.rules.specs.Machine.{value_in, object, value_at, store_in, store, value_of, locate, value, footprint, jump, advance, bind, holding, with_frame, choose, else_step}
use Rattle.rules.specs.Machine.{if_step, loop_step, again_step, stored, set_step, assign_step, raised, in_range, computed, compute_step, new_cell, grown, new_step, entry_values, call_frame, entered, call_step, statement_of, returned, assert_step, release_step, take_walk, open_step, shut_step, end_step, return_step, main_frame, ends, go_on, simple_step, step_at, step, run, start, run_program}
use Rattle.rules.proofs.Lists.{update-length, and_both}
use Rattle.rules.proofs.Tries.{ok-inj, bind_ok, check-ok}
use Rattle.rules.proofs.States.{on-inj, took-on}
use Rattle.widths.proofs.ReadBounds.{All, all-get, all-update, Small, SmallExpr, SmallSimple, SmallStmt, RowFits, ProgramFits}

-- VALUES OF A HEAP
abbrev SmallCell : Cell → Type 0
SmallCell c = Small c.value

abbrev SmallHeap : Heap → Type 0
SmallHeap h = All (All SmallCell) h

value-in : (cs : List Cell) (f : ℕ) → All SmallCell cs → Small (value_in cs f)
unfolding value_in
value-in [] f x = omega arith
value-in (c ∷ cs) f x = go (eqb c.name f) (value_in cs f) (value-in cs f x.1)
  where
    go : (b : Bool) (v : ℕ) → Small v → Small (cond b c.value v)
    go true v y = x.0
    go false v y = y

value-at : (h : Heap) (o f : ℕ) → SmallHeap h → Small (value_at h o f)
unfolding value_at object
value-at h zero f x = value-in [] f tt
value-at h (suc i) f x = value-in (get_or h i []) f (all-get (All SmallCell) h [] i tt x)

store-in : (f v : ℕ) (cs : List Cell) → Small v → All SmallCell cs → All SmallCell (store_in f v cs)
unfolding store_in
store-in f v [] y x = (y, tt)
store-in f v (c ∷ cs) y x = go (eqb c.name f) (store_in f v cs) (store-in f v cs y x.1)
  where
    go : (b : Bool) (r : List Cell) → All SmallCell r → All SmallCell (cond b (record { name = f; value = v } ∷ cs) (c ∷ r))
    go true r z = (y, x.1)
    go false r z = (x.0, z)

grow : (h : Heap) (cs : List Cell) → SmallHeap h → All SmallCell cs → SmallHeap (h ++ (cs ∷ []))
grow [] cs x y = (y, tt)
grow (o ∷ h) cs x y = (x.0, grow h cs x.1 y)

new-cells : (fs : List Field) → All SmallCell (map new_cell fs)
unfolding new_cell
new-cells [] = tt
new-cells (f ∷ fs) = (omega arith, new-cells fs)

all_take : (k : ℕ) (l : List ℕ) → All Small l → All Small (take k l)
all_take zero l x = tt
all_take (suc k) [] x = tt
all_take (suc k) (a ∷ l) x = (x.0, all_take k l x.1)

all_drop : (k : ℕ) (l : List ℕ) → All Small l → All Small (drop k l)
all_drop zero l x = x
all_drop (suc k) [] x = tt
all_drop (suc k) (a ∷ l) x = all_drop k l x.1

entry-long : (a b : ℕ) → 15 ≤ length (entry_values a b)
unfolding entry_values
entry-long a b = omega arith

-- FRAMES
module _ (n : ℕ) where
  record FrameFits (F : Frame) : Type 0 where
    values : All Small F.values
    size : 15 ≤ length F.values

  record Fit (m : Config) : Type 0 where
    heap : SmallHeap m.heap
    frame : FrameFits m.frame
    callers : All FrameFits m.callers

  value-of : (F : Frame) (x : ℕ) → FrameFits F → Small (value_of F x)
  unfolding value_of
  value-of F x y = all-get Small F.values 0 x (omega arith) y.values

  jump_fits : (F : Frame) (i : ℕ) → FrameFits F → FrameFits (jump i F)
  unfolding jump
  jump_fits F i x = record { values = x.values; size = x.size }

  advance-fits : (F : Frame) → FrameFits F → FrameFits (advance F)
  unfolding advance
  advance-fits F x = jump_fits F (suc F.row) x

  bind-fits : (F : Frame) (x v : ℕ) → FrameFits F → Small v → FrameFits (bind x v F)
  unfolding bind
  bind-fits F x v y s =
      record {
        values = all-update Small F.values 0 x v (omega arith) s y.values;
        size = omega (arith, y.size, update-length 0 F.values x v);
      }

  holding-fits : (F : Frame) (A : List Location) → FrameFits F → FrameFits (holding A F)
  unfolding holding
  holding-fits F A x = record { values = x.values; size = x.size }

  entry-fits : (a b : ℕ) → Small a → Small b → All Small (entry_values a b)
  unfolding entry_values
  entry-fits a b x y = (x, (y, zeros 13))
    where
      zeros : (k : ℕ) → All Small (replicate k 0)
      zeros zero = tt
      zeros (suc k) = (omega arith, zeros k)

  value-fits : (m : Config) (e : Expr ℕ) (v : ℕ) → Fit m → SmallExpr e → value m.heap m.frame e ≡ ok v → Small v
  unfolding value
  value-fits m (num k) v x s e = subst Small (ok-inj e) s
  value-fits m null v x s e = subst Small (ok-inj e) (omega arith)
  value-fits m (var y) v x s e = subst Small (ok-inj e) (value-of m.frame y x.frame)
  value-fits m (path y f) v x s e =
      let (p, i, j) = bind_ok (locate m.frame [] 1 y f) e in
      subst Small (ok-inj j) (value-at m.heap p.object f x.heap)

  store-fits : (h : Heap) (o f v : ℕ) → SmallHeap h → Small v → SmallHeap (store h o f v)
  unfolding store
  store-fits h zero f v x s = x
  store-fits h (suc i) f v x s =
      all-update (All SmallCell) h [] i (store_in f v (get_or h i [])) tt (store-in f v (get_or h i []) s (all-get (All SmallCell) h [] i tt x)) x

  with-frame : (m : Config) (F : Frame) → Fit m → FrameFits F → Fit (with_frame m F)
  unfolding with_frame
  with-frame m F x y = record { heap = x.heap; frame = y; callers = x.callers }

  assign-fits : (m m' : Config) (x : ℕ) (e : Expr ℕ) → Fit m → SmallExpr e → assign_step x e m ≡ ok m' → Fit m'
  unfolding assign_step
  assign-fits m m' x e f s i =
      let (v, j, k) = bind_ok (value m.heap m.frame e) i in
      subst Fit (ok-inj k)
      (with-frame m _ f (advance-fits _ (bind-fits m.frame x v f.frame (value-fits m e v f s j))))

  computed-small : (o : Operation) (a b v : ℕ) → computed o a b ≡ ok v → Small v
  unfolding computed
  computed-small o a b v e = let (t, i) = check-ok (in_range (raised o a b)) overflow e in subst Small (ok-inj i) (omega arith)

  compute-fits : (m m' : Config) (o : Operation) (x y z : ℕ) → Fit m → compute_step o x y z m ≡ ok m' → Fit m'
  unfolding compute_step
  compute-fits m m' o x y z f i =
      let (v, j, k) = bind_ok (computed o (value_of m.frame y) (value_of m.frame z)) i in
      subst Fit (ok-inj k) (with-frame m _ f (advance-fits _ (bind-fits m.frame x v f.frame (computed-small o _ _ v j))))

  set-fits : (m m' : Config) (x f y : ℕ) → Fit m → set_step x f y m ≡ ok m' → Fit m'
  unfolding set_step stored
  set-fits m m' x f y z i =
      let (p, j, k) = bind_ok (locate m.frame [] 2 x f) i in
      subst Fit (ok-inj k)
      (record {
        heap = store-fits m.heap p.object f (value_of m.frame y) z.heap (value-of m.frame y z.frame);
        frame = advance-fits m.frame z.frame;
        callers = z.callers;
      })

  new-fits : (room : Room) (m m' : Config) (x : ℕ) (fs : List Field) → room.objects ≤ 256 → Fit m → new_step room x fs m ≡ ok m' → Fit m'
  unfolding new_step grown
  new-fits room m m' x fs h z i =
      let (t, k) = check-ok (ltb (length m.heap) room.objects && leb (Machine.fields_in m.heap + length fs) room.fields) heap_full i in
      let (u, _) = and_both (ltb (length m.heap) room.objects) _ t in
      let o : Small (suc (length m.heap)) = omega (arith, ltb→lt (length m.heap) room.objects u) in
      subst Fit (ok-inj k)
      (record {
        heap = grow m.heap (map new_cell fs) z.heap (new-cells fs);
        frame = advance-fits _ (bind-fits _ x (suc (length m.heap)) (holding-fits m.frame _ z.frame) o);
        callers = z.callers;
      })

  call_fits : (m m' : Config) (y : ℕ) (M : Method) (k : ℕ) → Fit m → call_step y M k m ≡ ok m' → Fit m'
  unfolding call_step entered call_frame
  call_fits m m' y M k z i =
      let (_, i₁) = check-ok (not (eqb (value_of m.frame y) 0)) null_followed i in
      let (A, _, i₂) = bind_ok (footprint m.heap (call_frame m M y k) M.requires) i₁ in
      let (_, i₃) = check-ok (ltb (suc (length m.callers)) most_frames) frames_full i₂ in
      let a = value-of m.frame y z.frame in
      let b = value-of m.frame k z.frame in
      subst Fit (ok-inj i₃)
      (record {
        heap = z.heap;
        frame = holding-fits (call_frame m M y k) A (record { values = entry-fits _ _ a b; size = entry-long _ _ });
        callers = (holding-fits m.frame _ z.frame, z.callers);
      })

  assert-fits : (m m' : Config) (φ : Formula ℕ) → Fit m → assert_step φ m ≡ ok m' → Fit m'
  unfolding assert_step
  assert-fits m m' φ z i =
      let (A, _, k) = bind_ok (footprint m.heap m.frame φ) i in
      subst Fit (ok-inj k) (with-frame m _ z (advance-fits m.frame z.frame))

  release-fits : (m m' : Config) (φ : Formula ℕ) → Fit m → release_step φ m ≡ ok m' → Fit m'
  unfolding release_step
  release-fits m m' φ z i =
      let (A, _, k) = bind_ok (footprint m.heap m.frame φ) i in
      subst Fit (ok-inj k) (with-frame m _ z (advance-fits _ (holding-fits m.frame _ z.frame)))

  open-fits : (m m' : Config) (y x f : ℕ) → Fit m → open_step y x f m ≡ ok m' → Fit m'
  unfolding open_step
  open-fits m m' y x f z i =
      let o : ℕ = value_of m.frame x in
      let (_, i₁) = check-ok (not (eqb o 0)) null_followed i in
      let (A, _, k) = bind_ok (take_walk m.heap m.frame f o []) i₁ in
      subst Fit (ok-inj k)
      (with-frame m _ z (advance-fits _ (bind-fits m.frame y _ z.frame (value-at m.heap o f z.heap))))

  shut-fits : (m m' : Config) (x f : ℕ) → Fit m → shut_step x f m ≡ ok m' → Fit m'
  unfolding shut_step
  shut-fits m m' x f z i =
      let (v, _, i₁) = bind_ok (value m.heap m.frame (path x f)) i in
      let (A, _, i₂) = bind_ok (take_walk m.heap m.frame f v []) i₁ in
      let (p, _, k) = bind_ok (locate m.frame A 2 x f) i₂ in
      subst Fit (ok-inj k) (with-frame m _ z (advance-fits m.frame z.frame))

  if-fits : (m m' : Config) (rs : List Row) (r : Rattle.rules.specs.Syntax.Rel) (a b : Expr ℕ) → Fit m → if_step rs r a b m ≡ ok m' → Fit m'
  unfolding if_step choose
  if-fits m m' rs r a b z i =
      let (v, _, j) = bind_ok (value m.heap m.frame a) i in
      let (w, _, k) = bind_ok (value m.heap m.frame b) j in
      subst Fit (ok-inj k) (with-frame m _ z (jump_fits m.frame _ z.frame))

  end_fits : (P : Program) (m m' : Config) (Cs : List Frame) → All FrameFits Cs → Fit m → end_step P m Cs ≡ on m' → Fit m'
  unfolding end_step returned
  end_fits P m m' [] c z i = done_on i
    where
      done_on : {A : Type 0} → ◌≡◌ {A = Step} done (on m') → A
      done_on e = let q : ◌≡◌ {A = ℕ} 0 1 = cc in absurd (omega arith)
  end_fits P m m' (C ∷ Cs) c z i =
      let (A, _, k) = bind_ok (footprint m.heap m.frame m.frame.ensures) (took-on _ m' i) in
      subst Fit (ok-inj k)
      (record {
        heap = z.heap;
        frame = advance-fits _ (bind-fits _ _ _ (holding-fits C _ c.0) (value-of m.frame result_variable z.frame));
        callers = c.1;
      })

  return_fits : (P : Program) (m m' : Config) (x : ℕ) → Fit m → return_step P x m ≡ on m' → Fit m'
  unfolding return_step with_frame
  return_fits P m m' x z i =
      end_fits P _ m' m.callers z.callers
      (with-frame m _ z (bind-fits m.frame result_variable _ z.frame (value-of m.frame x z.frame))) i

  module _ (room : Room) (P : Program) (h : room.objects ≤ 256) (w : ProgramFits n P) where
    row_fits : (i : ℕ) → RowFits n (row_numbered P i)
    unfolding row_numbered
    row_fits i = all-get (RowFits n) P.rows no_row i (record { line = omega arith; stmt = tt }) w

    simple-fits : (p : Simple) (m m' : Config) → SmallSimple p → Fit m → simple_step room P p m ≡ ok m' → Fit m'
    unfolding simple_step
    simple-fits (set x f y) m m' s z i = set-fits m m' x f y z i
    simple-fits (assign x e) m m' s z i = assign-fits m m' x e z s i
    simple-fits (compute o x y v) m m' s z i = compute-fits m m' o x y v z i
    simple-fits (new x c) m m' s z i = new-fits room m m' x (get_or P.classes c []) h z i
    simple-fits (call x y k v) m m' s z i =
        call_fits m m' y (method_numbered P k) v z i
    simple-fits (assert φ) m m' s z i = assert-fits m m' φ z i
    simple-fits (release φ) m m' s z i = release-fits m m' φ z i
    simple-fits (open_chain y x f) m m' s z i = open-fits m m' y x f z i
    simple-fits (shut_chain x f) m m' s z i = shut-fits m m' x f z i

    at-fits : (st : Stmt) (m m' : Config) → SmallStmt st → Fit m → step_at room P st m ≡ on m' → Fit m'
    unfolding step_at else_step loop_step again_step
    at-fits (simple p) m m' s z i = simple-fits p m m' s z (took-on _ m' i)
    at-fits (return x) m m' s z i = return_fits P m m' x z i
    at-fits (if r a b) m m' s z i = if-fits m m' P.rows r a b z (took-on _ m' i)
    at-fits else m m' s z i =
        subst Fit (on-inj i)
        (with-frame m _ z (jump_fits m.frame _ z.frame))
    at-fits (join φ) m m' s z i = assert-fits m m' φ z (took-on _ m' i)
    at-fits (loop r a b φ) m m' s z i =
        let (_, _, j) = bind_ok (footprint m.heap m.frame φ) (took-on _ m' i) in if-fits m m' P.rows r a b z j
    at-fits again m m' s z i =
        subst Fit (on-inj i)
        (with-frame m _ z (jump_fits m.frame _ z.frame))
    at-fits end m m' s z i = end_fits P m m' m.callers z.callers z i

    step_fits : (m m' : Config) → Fit m → step room P m ≡ on m' → Fit m'
    unfolding step statement_of
    step_fits m m' z i = at-fits _ m m' (row_fits m.frame.row).stmt z i

    -- THE OUTCOME
    main_fits : (F : Frame) (Cs : List Frame) → FrameFits F → All FrameFits Cs → FrameFits (main_frame F Cs)
    unfolding main_frame
    main_fits F [] x y = x
    main_fits F (C ∷ Cs) x y = main_fits C Cs y.0 y.1

    pub record OutcomeFits (k : ℕ) (o : Outcome) : Type 0 where
      pub line : o.line ≤ n
      pub steps : o.steps ≤ k
      pub shown : length o.values ≡ 12
      pub values : All Small o.values

    ends-fit : (e : Ending) (j k : ℕ) (m : Config) → j ≤ k → Fit m → OutcomeFits k (ends P e j m)
    unfolding ends
    ends-fit e j k m l z =
        let M = main_fits m.frame m.callers z.frame z.callers in
        let vs : List ℕ = (main_frame m.frame m.callers).values in
        record {
          line = (row_fits m.frame.row).line;
          steps = l;
          shown = length-take-le 12 (drop 2 vs) (omega (arith, length-drop 2 vs, M.size));
          values = all_take 12 (drop 2 vs) (all_drop 2 vs M.values);
        }

    run_fits : (k j : ℕ) (m : Config) → Fit m → OutcomeFits (j + k) (run room P k j m)
    unfolding run go_on
    run_fits zero j m z = ends-fit steps_taken j (j + 0) m (omega arith) z
    run_fits (suc k) j m z = go (step room P m) refl (λ m' x. run_fits k (suc j) m' x)
      where
        go :
            (s : Step) → step room P m ≡ s → ((m' : Config) → Fit m' → OutcomeFits (suc j + k) (run room P k (suc j) m')) →
            OutcomeFits (j + suc k) (go_on P s j m (λ m'. run room P k (suc j) m'))
        go (on m') e ih = let q : suc j + k ≡ j + suc k = omega arith in subst (λ c. OutcomeFits c (run room P k (suc j) m')) q (ih m' (step_fits m m' z e))
        go (stop s) e ih = ends-fit (stopped s) j (j + suc k) m (omega arith) z
        go done e ih = ends-fit finished (suc j) (j + suc k) m (omega arith) z

    pub outcome_fits : (k : ℕ) → OutcomeFits k (run_program room P k)
    unfolding run_program start
    outcome_fits k =
        let q : 0 + k ≡ k = omega arith in
        subst (λ c. OutcomeFits c (run room P k 0 (start P))) q
        (run_fits k 0 (start P)
        (record {
          heap = tt;
          frame = record { values = entry-fits 0 0 (omega arith) (omega arith); size = entry-long 0 0 };
          callers = tt;
        }))
