-- Steps that change no more than the row, a variable, a value or holders of the running frame.
use mathlib.Core.Path.{◌≡◌, refl, sym, ap, ◌∙◌, subst}
use mathlib.Core.Bool.{true, false, cond}
use mathlib.Core.List.{List, [], ◌∷◌}
use mathlib.Core.Logic.{inl, inr, ⊎_elim}
use Prim.Native.Nat.{ℕ, zero, suc, ◌+◌, ◌-◌, ◌≤◌, ◌<◌}
use native.Mathlib.Omega.{arith}
use lib.Dec.{eqb}
use lib.ListN.{length}
use Rattle.rules.specs.Limits.{heap_fields}
use Rattle.rules.specs.Base.{Try, ok, no, ◌>>=◌, update}
use Rattle.rules.specs.Answers.{Stop}
use Rattle.rules.specs.Grammar.{Else, Again, statement_number}
use Rattle.rules.specs.Syntax.{Formula}
use Rattle.rules.specs.Machine.{Frame, Location, Config, on, took, value_of, value, compared, closing, loop_of, jump, advance, bind, with_frame, choose, if_step, else_step, loop_step, again_step, assert_step}
use Rattle.rules.specs.declared.Machine.{Machine}
use Rattle.rules.proofs.Lists.{update_same, update_other, decide_eq}
use Rattle.tables.specs.Layout.{frame_variables}
use Rattle.tables.specs.Decode.{byte_at, all_rows, row_count, kind_at, target_at, formula_at, atom_count, left_at, right_at, rel_of, atom_place}
use Rattle.tables.specs.Tables.{RowFits, HasTarget}
use Rattle.run_heap.specs.declared.Fault.{Fault}
use Rattle.std.specs.Prelude.{Some, Ok, Err}
use Rattle.run_heap.specs.Views.{frame_at, variable_at, halves_of, view_of, read_in, stop_of, ObjectFits, Readable}
use Rattle.run_footprint.specs.Footprints.{right_test, test_in, take_in}
use Rattle.run_steps.specs.States.{FrameIs, Represents, Follows, at_row, stepped, NotEnd, AtKind, Chooses, Jumps, if_on, loop_on, jump_here}
use Rattle.run_heap.proofs.Reading.{cell-small}
use Rattle.run_steps.proofs.Sights.{Sees, cells-apart}
use Rattle.run_steps.proofs.Seeing.{FormulaOk, value_is, no-footprint, ok-footprint, atoms-ok}

-- FRAMES
pub frame-jump :
    {w : List ℕ} {n b number row : ℕ} {F : Frame} (row' i : ℕ) → row' < row_count w → i ≡ row' →
    FrameIs w n b number row F → FrameIs w n b number row' (jump i F)
unfolding jump value_of
frame-jump row' i l e I =
    record {
      size = I.size;
      values = I.values;
      row_is = e;
      row_fits = l;
      held = I.held;
      numbered = I.numbered;
    }

update-size : (l : List ℕ) (i a : ℕ) → i < length l → length (update 0 l i a) ≡ length l
unfolding update
update-size [] i a h = absurd (omega arith)
update-size (x ∷ l) zero a h = refl
update-size (x ∷ l) (suc i) a h = ap suc (update-size l i a (omega arith))

-- where a variable is v and all else is as before
pub frame-bind :
    {w w' : List ℕ} {n b number row : ℕ} {F : Frame} (x v : ℕ) → x < frame_variables → variable_at w' b x ≡ v →
    ((y : ℕ) → y < frame_variables → (y ≡ x → ⊥) → variable_at w' b y ≡ variable_at w b y) →
    ((p : Location) → halves_of w' n number p ≡ halves_of w n number p) → row_count w' ≡ row_count w →
    FrameIs w n b number row F → FrameIs w' n b number row (bind x v F)
unfolding bind value_of
frame-bind {w} {w'} {n} {b} {number} {row} {F} x v l e o h k I =
    record {
      size = update-size F.values x v (omega (arith, I.size)) ∙ I.size;
      values = λ y j.
          ⊎_elim
          (λ (q : y ≡ x). rw q (update_same 0 F.values x v ∙ sym e))
          (λ (q : y ≡ x → ⊥). update_other 0 F.values x y v (λ z. q (sym z)) ∙ (I.values y j ∙ sym (o y j q)))
          (decide_eq y x);
      row_is = I.row_is;
      row_fits = omega (arith, I.row_fits, k);
      held = λ p. I.held p ∙ sym (h p);
      numbered = I.numbered;
    }

module _ {w : List ℕ} {c : Machine} {m : Config} (R : Represents w c m) where
  pub row_fits : RowFits w c.row
  row_fits = R.tables.row_fits c.row R.frame.row_fits

  index : c.frames - 1 ≡ length m.callers
  index = omega (arith, R.frames)

  pub running : FrameIs w c.objects (frame_at (c.frames - 1)) c.holder c.row m.frame
  running = rw index R.frame

  fit : (i : ℕ) → i < c.objects → ObjectFits w heap_fields i
  fit i l =
      let O = R.heap.fit i l in
      record { class = O.class; cells = omega (arith, O.cells, R.heap.most_fields) }

  pub readable : Readable w (view_of c)
  readable =
      record {
        tables = R.tables;
        base = omega (arith, R.most, R.frames);
        objects = R.heap.most_objects;
        object = fit;
      }

  pub sees : Sees w (view_of c) m.heap m.frame
  sees =
      record {
        values = running.values;
        held = running.held;
        cells = R.heap.value;
        most = R.heap.most_objects;
        small = λ o f k e. cell-small o f R.tables fit e;
        apart = cells-apart R.tables R.heap;
      }

  -- THE ROW
  pub next-is : suc m.frame.row ≡ c.row + 1
  next-is = omega (arith, R.frame.row_is)

  pub next_fits : NotEnd w c → c.row + 1 < row_count w
  unfolding statement_number
  next_fits n = ⊎_elim (λ e. absurd (n e)) (λ l. omega arith) row_fits.follows.next

  -- the same state, at another row and after as many steps or more
  pub moved_to :
      (row steps i : ℕ) → row < row_count w → i ≡ row → c.steps ≤ steps →
      Represents w (at_row c row steps) (with_frame m (jump i m.frame))
  unfolding with_frame jump
  moved_to row steps i l e h =
      record {
        tables = R.tables;
        heap = R.heap;
        frames = R.frames;
        most = R.most;
        frame = at-row;
        ensures = R.ensures;
        callers = R.callers;
        last = R.last;
        given = omega (arith, R.given);
      }
    where
      at-row : FrameIs w c.objects (frame_at (length m.callers)) c.holder row (jump i m.frame)
      at-row = frame-jump row i l e R.frame

  pub moved :
      (row i : ℕ) → row < row_count w → i ≡ row → Represents w (stepped c row) (with_frame m (jump i m.frame))
  moved row i l e = moved_to row (c.steps + 1) i l e (omega arith)

  pub moved_on :
      NotEnd w c → Represents w (stepped c (c.row + 1)) (with_frame m (advance m.frame))
  unfolding advance
  moved_on n = moved (c.row + 1) (suc m.frame.row) (next_fits n) next-is

  -- ANSWERS
  pub follow-stop :
      (f : Fault) (t : Try Stop Config) → t ≡ no (stop_of f) → Follows w c (Err f) m (took t)
  unfolding took
  follow-stop f t e = (rw e, R)

  pub follow-stop-in :
      (f : Fault) (t : Try Stop Config) {w' : List ℕ} → t ≡ no (stop_of f) → Represents w' c m → Follows w' c (Err f) m (took t)
  unfolding took
  follow-stop-in f t e I = (rw e, I)

  pub follow-on :
      (d : Machine) (t : Try Stop Config) (n : Config) {w' : List ℕ} → t ≡ ok n → d.steps ≡ c.steps + 1 → Represents w' d n →
      Follows w' c (Ok (Some d)) m (took t)
  unfolding took
  follow-on d t n e s I = record { next = n; is_next = rw e; represents = I; counted = s }

  -- FORMULAS
  pub row-formula-ok : FormulaOk (formula_at w c.row)
  row-formula-ok = atoms-ok w R.tables _ _ row_fits.operands.atoms.1

  pub assert-stop :
      (φ : Formula ℕ) (f : Fault) → FormulaOk φ → take_in w (view_of c) φ [] ≡ no (stop_of f) →
      Follows w c (Err f) m (took (assert_step φ m))
  unfolding assert_step ◌>>=◌
  assert-stop φ f l e = follow-stop f _ (rw (no-footprint sees φ (stop_of f) l e))

  pub assert-on :
      (φ : Formula ℕ) (ss : List ℕ) → FormulaOk φ → NotEnd w c → take_in w (view_of c) φ [] ≡ ok ss →
      Follows w c (Ok (Some (stepped c (c.row + 1)))) m (took (assert_step φ m))
  unfolding assert_step ◌>>=◌
  assert-on φ ss l n e =
      let (A, a, M) = ok-footprint sees φ ss l e in
      follow-on _ _ _ (rw a) refl (moved_on n)

  -- BRANCHES AND LOOPS
  goes_to :
      (i : ℕ) → HasTarget (kind_at w c.row) → i ≡ target_at w c.row →
      Follows w c (Ok (Some (stepped c (target_at w c.row)))) m (on (with_frame m (jump i m.frame)))
  goes_to i t e = record { next = with_frame m (jump i m.frame); is_next = refl; represents = moved (target_at w c.row) i (row_fits.follows.target t) e; counted = refl }

  else-on : AtKind w c Else → Follows w c (Ok (Some (stepped c (target_at w c.row)))) m (on (else_step (all_rows w) m))
  unfolding else_step statement_number
  else-on k = goes_to _ (inr (inl k)) (ap (closing (all_rows w)) R.frame.row_is ∙ sym (row_fits.follows.to_join k))

  again-on : AtKind w c Again → Follows w c (Ok (Some (stepped c (target_at w c.row)))) m (on (again_step (all_rows w) m))
  unfolding again_step statement_number
  again-on k = goes_to _ (inr (inr (inr k))) (ap (loop_of (all_rows w)) R.frame.row_is ∙ sym (row_fits.follows.to_loop k))

  pub jump-on : Jumps w c → Follows w c (Ok (Some (stepped c (target_at w c.row)))) m (jump_here w c m)
  unfolding statement_number
  jump-on (inl k) = subst (λ n. Follows w c (Ok (Some (stepped c (target_at w c.row)))) m (on (cond (eqb n (statement_number Else)) (else_step (all_rows w) m) (again_step (all_rows w) m)))) (sym k) (else-on k)
  jump-on (inr k) = subst (λ n. Follows w c (Ok (Some (stepped c (target_at w c.row)))) m (on (cond (eqb n (statement_number Else)) (else_step (all_rows w) m) (again_step (all_rows w) m)))) (sym k) (again-on k)

  -- where the condition fails
  other_row : Chooses w c → (target_at w c.row < row_count w) × (target_at w c.row ≡ suc (closing (all_rows w) c.row))
  unfolding statement_number
  other_row (inl k) = (row_fits.follows.target (inl k), row_fits.follows.after_else k)
  other_row (inr k) = (row_fits.follows.target (inr (inr (inl k))), row_fits.follows.after_again k)

  not_end : Chooses w c → NotEnd w c
  unfolding statement_number
  not_end (inl k) z = omega (arith, k, z)
  not_end (inr k) z = omega (arith, k, z)

  module _ (a : ℕ) (fits : a < atom_count w) where
    if-is :
        if_step (all_rows w) (rel_of (byte_at w (atom_place a))) (left_at w a) (right_at w a) m
        ≡ test_in w (view_of c) a >>= λ b. ok (with_frame m (jump (cond b (suc m.frame.row) (suc (closing (all_rows w) m.frame.row))) m.frame))
    unfolding if_step choose test_in right_test ◌>>=◌
    if-is =
        let F = R.tables.atom_fits a fits in
        rw (value_is sees (left_at w a) F.left, value_is sees (right_at w a) F.right)
        (go (read_in w (view_of c) (left_at w a)) (read_in w (view_of c) (right_at w a)))
      where
        go :
            (s t : Try Stop ℕ) →
            s >>= (λ v. t >>= λ u. ok (with_frame m (jump (cond (compared (rel_of (byte_at w (atom_place a))) v u) (suc m.frame.row) (suc (closing (all_rows w) m.frame.row))) m.frame)))
            ≡ (s >>= λ v. t >>= λ u. ok (compared (rel_of (byte_at w (atom_place a))) v u)) >>= λ b. ok (with_frame m (jump (cond b (suc m.frame.row) (suc (closing (all_rows w) m.frame.row))) m.frame))
        go (ok v) (ok u) = refl
        go (ok v) (no z) = refl
        go (no z) t = refl

    pub if-stop :
        (f : Fault) → test_in w (view_of c) a ≡ no (stop_of f) →
        Follows w c (Err f) m (if_on w a m)
    unfolding ◌>>=◌
    if-stop f e = follow-stop f _ (if-is ∙ rw e)

    pub if-true :
        Chooses w c → test_in w (view_of c) a ≡ ok true → Follows w c (Ok (Some (stepped c (c.row + 1)))) m (if_on w a m)
    unfolding ◌>>=◌
    if-true k e = follow-on _ _ _ (if-is ∙ rw e) refl (moved (c.row + 1) _ (next_fits (not_end k)) next-is)

    pub if-false :
        Chooses w c → test_in w (view_of c) a ≡ ok false → Follows w c (Ok (Some (stepped c (target_at w c.row)))) m (if_on w a m)
    unfolding ◌>>=◌
    if-false k e =
        let (l, t) = other_row k in
        follow-on _ _ _ (if-is ∙ rw e) refl
        (moved (target_at w c.row) _ l (ap (λ (i : ℕ). suc (closing (all_rows w) i)) R.frame.row_is ∙ sym t))

  -- the invariant of a loop, and then its condition
  pub loop-stop :
      (a : ℕ) (f : Fault) → take_in w (view_of c) (formula_at w c.row) [] ≡ no (stop_of f) → Follows w c (Err f) m (loop_on w a c m)
  unfolding loop_step ◌>>=◌
  loop-stop a f e = follow-stop f _ (rw (no-footprint sees _ (stop_of f) row-formula-ok e))

  pub loop-is :
      (a : ℕ) (ss : List ℕ) → take_in w (view_of c) (formula_at w c.row) [] ≡ ok ss → loop_on w a c m ≡ if_on w a m
  unfolding loop_step ◌>>=◌
  loop-is a ss e = let (A, f, M) = ok-footprint sees _ ss row-formula-ok e in rw f
