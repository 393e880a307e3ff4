-- `call`: the new frame holds what requires takes, which the caller loses.
use mathlib.Core.Path.{◌≡◌, refl, sym, ap, ◌∙◌, subst}
use mathlib.Core.Bool.{not}
use mathlib.Core.List.{List, []}
use mathlib.Core.Logic.{inl, inr}
use mathlib.Core.Option.{Option, none, some}
use Prim.Native.Nat.{ℕ, suc, ◌+◌, ◌-◌, ◌≤◌, ◌<◌}
use native.Mathlib.Omega.{arith}
use lib.Dec.{eqb}
use lib.ListN.{length, get_or}
use borrow.Author.Tests.{ne_eqb, eq-eqb, lt-ltb, le-ltb}
use Rattle.rules.specs.Limits.{most_frames, most_methods}
use Rattle.rules.specs.Base.{Try, ok, no, ◌>>=◌, ◌>>◌, check}
use Rattle.rules.specs.Answers.{Stop, null_followed}
use Rattle.rules.specs.Grammar.{Call, statement_number}
use Rattle.rules.specs.Machine.{Frame, Location, Config, took, halves, without, value_of, footprint, holding, entry_values, call_frame, entered, call_step}
use Rattle.rules.specs.declared.Machine.{Machine}
use Rattle.rules.proofs.Sets.{halves-without}
use Rattle.rules.proofs.Footprints.{footprint-held}
use Rattle.tables.specs.Layout.{frame_variables, holders_at, objects_at, frames_at}
use Rattle.tables.specs.Decode.{byte_at, half_at, word_at, y_at, z_at, member_at, method_place, atoms_from, atom_count, kind_at, method_count, method_at, requires_at, ensures_at, first_row_at}
use Rattle.tables.specs.Stores.{SameTables}
use Rattle.tables.proofs.BytesRead.{same-trans}
use Rattle.tables.proofs.Decoding.{tables-same, rows-count-same, kind-same, methods-count-same, first-row-same, ensures-same, requires-same}
use Rattle.run_heap.specs.declared.Fault.{Fault}
use Rattle.std.specs.Prelude.{Some, None, Ok, Err}
use Rattle.run_steps.specs.States.{Turn}
use Rattle.run_heap.specs.Views.{frame_at, variable_at, saved_holder, saved_row, method_of, halves_at, cell_of, halves_in, halves_of, prepared, next_view, stop_of, frame_holder, frame_row, frame_method}
use Rattle.run_footprint.specs.Footprints.{spread, marked, take_in, SharesFit}
use Rattle.run_steps.specs.States.{FrameIs, CallerIs, CallersAre, Represents, Follows, Does, CanStep, AtKind}
use Rattle.run_calls.specs.Calls.{Calling, Admits, called, call_here}
use Rattle.run_heap.proofs.Reading.{cell-small}
use Rattle.run_steps.proofs.Sights.{Sees}
use Rattle.run_steps.proofs.Seeing.{Matches, FormulaOk, no-footprint, ok-footprint, atoms-ok}
use Rattle.run_footprint.proofs.Regions.{Only, only-wide, only-tables, variable-kept, value-kept, halves-kept}
use Rattle.run_footprint.proofs.Handing.{only-marked}
use Rattle.run_footprint.proofs.Cells.{SameObjects, same-objects}
use Rattle.run_steps.proofs.Keeping.{SameFrame, same-frame, halves-of-kept, frame-kept, ensures-kept, callers-kept, heap-kept}
use Rattle.run_steps.proofs.Moves.{sees, readable, follow-stop, follow-stop-in, follow-on}
use Rattle.run_steps.proofs.Changes.{marks-only, marks-tables, lost, gained, others-kept, heap-marked}
use Rattle.run_steps.proofs.Steps.{frame-holding}
use Rattle.run_steps.proofs.Doing.{does-on, does-stop, fits}
use Rattle.run_calls.proofs.Framing.{framed-only, framed-before, framed-method, framed-holder, framed-row, framed-values}

module _ {w : List ℕ} {c : Machine} {m : Config} (R : Represents w c m) where
  -- bytes after the running frame's variables, but for its method, are free
  pub above_kept :
      (w' : List ℕ) → Only (frame_at (length m.callers) + frame_holder) (frames_at + 8192) w w' →
      method_of w' (length m.callers) ≡ method_of w (length m.callers) → Represents w' c m
  above_kept w' s e =
      let i : ℕ = length m.callers in
      let a : ℕ = frame_at i + frame_holder in
      let b : ℕ = frames_at + 8192 in
      let t : SameTables w w' = only-tables s (omega arith) in
      let S : SameObjects c.objects w w' = same-objects a b w w' c.objects s (inl (omega arith)) R.heap.most_objects in
      let K : (n k : ℕ) → k < c.fields → halves_at w' n k ≡ halves_at w n k =
      λ n k l. halves-kept a b w w' s (inl (omega arith)) n k (omega (arith, R.heap.most_fields)) in
      let H : (n : ℕ) (p : Location) → halves_of w' c.objects n p ≡ halves_of w c.objects n p =
      λ n p. halves-of-kept w w' t R.tables c.objects c.fields n p R.heap.fit S (K n) in
      record {
        tables = tables-same w w' t R.tables;
        heap =
            heap-kept w w' t R.tables c.objects c.fields c.holders c.holders m.heap S
            (λ k l. value-kept a b w w' s (inl (omega arith)) k (omega (arith, R.heap.most_fields)))
            (λ k n l h. K n k l ∙ R.heap.marks k n l h) R.heap;
        frames = R.frames;
        most = R.most;
        frame =
            frame-kept w w' t R.tables c.objects c.objects (frame_at i) c.holder c.row m.frame
            (λ x l. variable-kept a b w w' s (frame_at i) x (inl (omega arith)) l) (H c.holder) R.frame;
        ensures = ensures-kept w w' t R.tables i m.frame e R.ensures;
        callers =
            callers-kept w w' t R.tables c.objects c.objects c.holder m.callers
            (λ j l. same-frame a b w w' j s (inl (omega arith))) (λ number _ _ p. H number p) R.callers;
        last = R.last;
        given = R.given;
      }

  -- nothing is with a number above those given out
  fresh : (n : ℕ) (p : Location) → c.holders < n → halves_of w c.objects n p ≡ 0
  unfolding halves_of halves_in
  fresh n p l = go (cell_of w c.objects p.object p.field) refl
    where
      go : (o : Option ℕ) → cell_of w c.objects p.object p.field ≡ o → halves_in w n o ≡ 0
      go none e = refl
      go (some k) e = R.heap.marks k n (cell-small p.object p.field R.tables R.heap.fit e) l

-- the next frame is in its place
pub record Prepared (w : List ℕ) (c : Machine) (m : Config) (method : ℕ) (G : Frame) : Type 0 where
  pub exists : method < method_count w
  pub holder : saved_holder w (length m.callers) ≡ c.holder
  pub row : saved_row w (length m.callers) ≡ c.row
  pub is-method : method_of w (suc (length m.callers)) ≡ method
  pub size : length G.values ≡ frame_variables
  pub values : (x : ℕ) → x < frame_variables → value_of G x ≡ variable_at w (frame_at (suc (length m.callers))) x
  pub first : G.row ≡ first_row_at w method
  pub ensures : G.ensures ≡ ensures_at w method
  pub held : G.held ≡ m.frame.held

module _ {w : List ℕ} {c : Machine} {m : Config} {method : ℕ} {G : Frame} (R : Represents w c m) (N : Prepared w c m method G) where
  -- requires is read over the caller's set
  pub next-sees : Sees w (next_view c) m.heap G
  next-sees =
      let S = sees R in
      let b : frame_at (suc (length m.callers)) ≡ frame_at c.frames = omega (arith, R.frames) in
      record {
        values = λ x l. N.values x l ∙ ap (λ (i : ℕ). variable_at w i x) b;
        held = λ p. ap (λ (A : List Location). halves A p) N.held ∙ S.held p;
        cells = S.cells;
        most = S.most;
        small = S.small;
        apart = S.apart;
      }

  module _ (A : List Location) (ss : List ℕ) (M : Matches w c.objects A ss)
      (taken : (p : Location) → halves A p ≤ halves m.frame.held p) (fits : c.holders + 1 < 4294967296) where
    new-marks : Only holders_at objects_at w (marked w ss c.holder (c.holders + 1))
    new-marks = marks-only R A ss (c.holders + 1) M

    new-tables : SameTables w (marked w ss c.holder (c.holders + 1))
    new-tables = marks-tables R A ss (c.holders + 1) M

    -- the new number is none of those that hold
    other : c.holders + 1 ≡ c.holder → ⊥
    other e = omega (arith, e, R.last)

    -- the new frame holds what was taken
    handed-over : (p : Location) → halves A p ≡ halves_of (marked w ss c.holder (c.holders + 1)) c.objects (c.holders + 1) p
    handed-over p = omega (arith, gained R A ss (c.holders + 1) M taken fits other p, fresh R (c.holders + 1) p (omega arith))

    -- and the caller loses it
    left_over : (p : Location) → halves (without A m.frame.held) p ≡ halves_of (marked w ss c.holder (c.holders + 1)) c.objects c.holder p
    left_over p =
        omega (arith, halves-without A m.frame.held p, lost R A ss (c.holders + 1) M taken fits other p, R.frame.held p)

    kept_frame : (j : ℕ) → SameFrame j w (marked w ss c.holder (c.holders + 1))
    kept_frame j = same-frame holders_at objects_at w (marked w ss c.holder (c.holders + 1)) j new-marks (inr (omega arith))

    the_caller :
        kind_at w c.row ≡ statement_number Call →
        CallerIs (marked w ss c.holder (c.holders + 1)) c.objects (length m.callers) (c.holders + 1) (holding (without A m.frame.held) m.frame)
    unfolding holding
    the_caller k =
        let i : ℕ = length m.callers in
        let w' : List ℕ = marked w ss c.holder (c.holders + 1) in
        let h : saved_holder w' i ≡ c.holder = (kept_frame i).holder ∙ N.holder in
        let r : saved_row w' i ≡ c.row = (kept_frame i).row ∙ N.row in
        record {
          frame =
              rw (h, r)
              (frame-holding (without A m.frame.held) (kept_frame i).variables
              (rows-count-same w w' new-tables) left_over R.frame);
          below = rw h (omega (arith, R.last));
          at_call = rw r (kind-same w w' new-tables c.row (omega (arith, R.frame.row_fits, R.tables.rows)) ∙ k);
          ensures = ensures-kept w w' new-tables R.tables i m.frame (kept_frame i).method R.ensures;
        }

    the_frame :
        FrameIs (marked w ss c.holder (c.holders + 1)) c.objects (frame_at (suc (length m.callers))) (c.holders + 1) (first_row_at w method) (holding A G)
    unfolding holding value_of
    the_frame =
        let w' : List ℕ = marked w ss c.holder (c.holders + 1) in
        record {
          size = N.size;
          values = λ x l. N.values x l ∙ sym ((kept_frame (suc (length m.callers))).variables x l);
          row_is = N.first;
          row_fits = omega (arith, (R.tables.method_fits method N.exists).block.0, rows-count-same w w' new-tables);
          held = handed-over;
          numbered = omega arith;
        }

    pub enters :
        kind_at w c.row ≡ statement_number Call → c.frames < most_frames →
        Represents (marked w ss c.holder (c.holders + 1)) (called c (first_row_at w method)) (entered m G A)
    unfolding entered CallersAre holding
    enters k l =
        let i : ℕ = length m.callers in
        let w' : List ℕ = marked w ss c.holder (c.holders + 1) in
        let h : saved_holder w' i ≡ c.holder = (kept_frame i).holder ∙ N.holder in
        let e : method_of w' (suc i) ≡ method = (kept_frame (suc i)).method ∙ N.is-method in
        record {
          tables = tables-same w w' new-tables R.tables;
          heap = heap-marked R A ss (c.holders + 1) M (c.holders + 1) fits (omega arith) (omega arith);
          frames = omega (arith, R.frames);
          most = omega arith;
          frame = the_frame;
          ensures =
              inr (
                rw e (omega (arith, N.exists, methods-count-same w w' new-tables)),
                rw e (N.ensures ∙ sym (ensures-same w w' new-tables R.tables method N.exists)),
              );
          callers = (
            the_caller k,
            rw h
                (callers-kept w w' new-tables R.tables c.objects c.objects c.holder m.callers (λ j _. kept_frame j)
                (λ n _ l p. others-kept R A ss (c.holders + 1) M taken fits n l (λ e. omega (arith, e, l, R.last)) p) R.callers),
          );
          last = omega arith;
          given = omega (arith, R.given);
        }

-- THE STEP
entry-size : (o p : ℕ) → length (entry_values o p) ≡ frame_variables
unfolding entry_values
entry-size o p = refl

module _ {w : List ℕ} {c : Machine} {m : Config} (R : Represents w c m) (y z method o p : ℕ)
    (exists : method < method_count w) (ly : y < frame_variables) (lz : z < frame_variables)
    (eo : o ≡ variable_at w (frame_at (c.frames - 1)) y) (ep : p ≡ variable_at w (frame_at (c.frames - 1)) z)
    (lo : o < 4294967296) (lp : p < 4294967296) (lh : c.holder < 4294967296) where
  i : ℕ
  i = length m.callers

  a-is : frame_at (c.frames - 1) ≡ frame_at (length m.callers)
  a-is = omega (arith, R.frames)

  b-is : frame_at c.frames ≡ frame_at (suc (length m.callers))
  b-is = omega (arith, R.frames)

  next : frame_at c.frames ≡ frame_at (c.frames - 1) + 72
  next = omega (arith, R.frames)

  room-left : frame_at c.frames + 72 ≤ length w
  room-left = omega (arith, R.most, R.tables.size)

  this-is : value_of m.frame y ≡ o
  this-is = (sees R).values y ly ∙ sym eo

  parameter-is : value_of m.frame z ≡ p
  parameter-is = (sees R).values z lz ∙ sym ep

  row-half : c.row < 65536
  row-half = omega (arith, R.frame.row_fits, R.tables.rows)

  ready-only : Only (frame_at (length m.callers) + frame_holder) (frames_at + 8192) w (prepared w c method o p)
  ready-only =
      only-wide
      (framed-only w (frame_at (c.frames - 1)) (frame_at c.frames) c.holder c.row method o p next room-left)
      (omega (arith, a-is)) (omega (arith, R.most))

  pub call-tables : SameTables w (prepared w c method o p)
  call-tables = only-tables ready-only (omega arith)

  pub call_kept : Represents (prepared w c method o p) c m
  unfolding method_of
  call_kept =
      above_kept R (prepared w c method o p) ready-only
      (subst (λ (n : ℕ). byte_at (prepared w c method o p) (n + frame_method) ≡ byte_at w (n + frame_method)) a-is
      (framed-before w (frame_at (c.frames - 1)) (frame_at c.frames) c.holder c.row method o p next room-left))

  pub call-prepared : Prepared (prepared w c method o p) c m method (call_frame m (method_at w method) y z)
  unfolding call_frame method_at method_of saved_holder saved_row value_of
  call-prepared =
      let u : List ℕ = prepared w c method o p in
      let A : ℕ = frame_at (c.frames - 1) in
      let B : ℕ = frame_at c.frames in
      let lm : method < most_methods = omega (arith, exists, R.tables.methods) in
      record {
        exists = omega (arith, exists, methods-count-same w u call-tables);
        holder =
            subst (λ (n : ℕ). word_at u (n + frame_holder) ≡ c.holder) a-is
            (framed-holder w A B c.holder c.row method o p next room-left lh);
        row =
            subst (λ (n : ℕ). half_at u (n + frame_row) ≡ c.row) a-is
            (framed-row w A B c.holder c.row method o p next room-left row-half);
        is-method =
            subst (λ (n : ℕ). byte_at u (n + frame_method) ≡ method) b-is (framed-method w A B c.holder c.row method o p next room-left);
        size = entry-size (value_of m.frame y) (value_of m.frame z);
        values = λ x l.
            ap (λ (n : ℕ). get_or (entry_values n (value_of m.frame z)) x 0) this-is
            ∙ (ap (λ (n : ℕ). get_or (entry_values o n) x 0) parameter-is
            ∙ (framed-values w A B c.holder c.row method o p next room-left lo lp x l ∙ ap (λ (n : ℕ). variable_at u n x) b-is));
        first = sym (first-row-same w u call-tables method lm);
        ensures = sym (ensures-same w u call-tables R.tables method exists);
        held = refl;
      }

  -- requires as the code reads it, and as the definition has it
  requires-is : (method_at w method).requires ≡ requires_at (prepared w c method o p) method
  unfolding method_at
  requires-is = sym (requires-same w (prepared w c method o p) call-tables R.tables method exists)

  requires-ok : FormulaOk (requires_at (prepared w c method o p) method)
  unfolding requires_at
  requires-ok =
      atoms-ok (prepared w c method o p) call_kept.tables _ _ (call_kept.tables.method_fits method call-prepared.exists).formulas.requires.1

  G : Frame
  G = call_frame m (method_at w method) y z

  -- the test of `call`, once the receiver is known not to be null
  after-null : (o ≡ 0 → ⊥) → (t : Try Stop Config) → check (not (eqb (value_of m.frame y) 0)) null_followed >> t ≡ t
  unfolding check ◌>>◌
  after-null n t = rw (ne_eqb _ 0 (λ e. n (sym this-is ∙ e)))

  taken-by : (A : List Location) → footprint m.heap (call_frame m (method_at w method) y z) (requires_at (prepared w c method o p) method) ≡ ok A →
      (q : Location) → halves A q ≤ halves m.frame.held q
  unfolding call_frame
  taken-by A e q = footprint-held m.heap (call_frame m (method_at w method) y z) _ A e q

  pub call-lacks :
      (s : Fault) → (o ≡ 0 → ⊥) → take_in (prepared w c method o p) (next_view c) (requires_at (prepared w c method o p) method) [] ≡ no (stop_of s) →
      Follows (prepared w c method o p) c (Err s) m (took (call_step y (method_at w method) z m))
  unfolding call_step ◌>>=◌
  call-lacks s n e =
      let f = no-footprint (next-sees call_kept call-prepared) _ (stop_of s) requires-ok e in
      let f' : footprint m.heap (call_frame m (method_at w method) y z) (method_at w method).requires ≡ no (stop_of s) =
      ap (footprint m.heap (call_frame m (method_at w method) y z)) requires-is ∙ f in
      follow-stop-in R s _ (after-null n _ ∙ rw f') call_kept

  pub call-full :
      (ss : List ℕ) → (o ≡ 0 → ⊥) → most_frames ≤ c.frames →
      take_in (prepared w c method o p) (next_view c) (requires_at (prepared w c method o p) method) [] ≡ ok ss →
      Follows (prepared w c method o p) c (Err Fault.FramesFull) m (took (call_step y (method_at w method) z m))
  unfolding call_step ◌>>=◌ check ◌>>◌ stop_of
  call-full ss n l e =
      let (A, f, M) = ok-footprint (next-sees call_kept call-prepared) _ ss requires-ok e in
      let f' : footprint m.heap (call_frame m (method_at w method) y z) (method_at w method).requires ≡ ok A =
      ap (footprint m.heap (call_frame m (method_at w method) y z)) requires-is ∙ f in
      follow-stop-in R Fault.FramesFull _ (after-null n _ ∙ rw (f', le-ltb (suc (length m.callers)) most_frames (omega (arith, R.frames)))) call_kept

  pub call-fit :
      (ss : List ℕ) → take_in (prepared w c method o p) (next_view c) (requires_at (prepared w c method o p) method) [] ≡ ok ss →
      SharesFit (spread (prepared w c method o p) c.objects ss)
  call-fit ss e = let (A, f, M) = ok-footprint (next-sees call_kept call-prepared) _ ss requires-ok e in M.fit

  pub call_enters :
      (ss : List ℕ) → (o ≡ 0 → ⊥) → c.frames < most_frames → kind_at w c.row ≡ statement_number Call → c.steps < 4294967295 →
      take_in (prepared w c method o p) (next_view c) (requires_at (prepared w c method o p) method) [] ≡ ok ss →
      Follows (marked (prepared w c method o p) (spread (prepared w c method o p) c.objects ss) c.holder (c.holders + 1)) c
      (Ok (Some (called c (first_row_at (prepared w c method o p) method)))) m (took (call_step y (method_at w method) z m))
  unfolding call_step ◌>>=◌ check ◌>>◌
  call_enters ss n l k h e =
      let (A, f, M) = ok-footprint (next-sees call_kept call-prepared) _ ss requires-ok e in
      let f' : footprint m.heap (call_frame m (method_at w method) y z) (method_at w method).requires ≡ ok A =
      ap (footprint m.heap (call_frame m (method_at w method) y z)) requires-is ∙ f in
      let k' : kind_at (prepared w c method o p) c.row ≡ statement_number Call =
      kind-same w (prepared w c method o p) call-tables c.row (omega (arith, R.frame.row_fits, R.tables.rows)) ∙ k in
      follow-on R _ _ _ (after-null n _ ∙ rw (f', lt-ltb (suc (length m.callers)) most_frames (omega (arith, R.frames)))) refl
      (enters call_kept call-prepared A (spread (prepared w c method o p) c.objects ss) M (taken-by A f) (omega (arith, R.given, R.most)) k' l)

-- THE CODE
module _ {w : List ℕ} {c : Machine} (ready : CanStep w c) (k : AtKind w c Call) (y z method o p : ℕ)
    (ey : y ≡ y_at w c.row) (ez : z ≡ z_at w c.row) (em : method ≡ member_at w c.row)
    (eo : o ≡ variable_at w (frame_at (c.frames - 1)) y) (ep : p ≡ variable_at w (frame_at (c.frames - 1)) z)
    (lo : o < 4294967296) (lp : p < 4294967296) where
  exists : method < method_count w
  unfolding statement_number
  exists = omega (arith, em, (fits ready).method k)

  ly : y < frame_variables
  ly = omega (arith, ey, (fits ready).y)

  lz : z < frame_variables
  lz = omega (arith, ez, (fits ready).z)

  numbers : c.holders + 1 < 4294967296
  numbers = omega (arith, ready.represents.given, ready.represents.most, ready.more)

  lh : c.holder < 4294967296
  lh = omega (arith, ready.represents.last, numbers)

  step_is : (m : Config) → took (call_step y (method_at w method) z m) ≡ call_here w c m
  step_is m = rw (ey, ez, em)

  follow-as :
      (w' : List ℕ) (r : Turn) (m : Config) → Follows w' c r m (took (call_step y (method_at w method) z m)) →
      Follows w' c r m (call_here w c m)
  follow-as w' r m f = subst (Follows w' c r m) (step_is m) f

  tables-too : SameTables w (prepared w c method o p)
  tables-too = call-tables ready.represents y z method o p exists ly lz eo ep lo lp lh

  pub calling : Calling (prepared w c method o p) c method
  calling =
      let R = ready.represents in
      let K = call_kept R y z method o p exists ly lz eo ep lo lp lh in
      record {
        readable =
            record {
              tables = K.tables;
              base = omega (arith, R.most);
              objects = K.heap.most_objects;
              object = (readable K).object;
            };
        exists = (call-prepared R y z method o p exists ly lz eo ep lo lp lh).exists;
        more = ready.more;
        numbers = omega (arith, numbers);
        fit = λ ss e. call-fit R y z method o p exists ly lz eo ep lo lp lh ss e;
      }

  stopped-at :
      (w' : List ℕ) (s : Fault) → w' ≡ prepared w c method o p →
      ((m : Config) → Represents w c m → Follows (prepared w c method o p) c (Err s) m (took (call_step y (method_at w method) z m))) →
      Does w c w' (Err s) (call_here w c)
  stopped-at w' s q h =
      record {
        tables = subst (SameTables w) (sym q) tables-too;
        follows = λ m R. follow-as w' (Err s) m (subst (λ u. Follows u c (Err s) m (took (call_step y (method_at w method) z m))) (sym q) (h m R));
      }

  pub calls :
      (w' : List ℕ) (r : Turn) → (o ≡ 0 → ⊥) → Admits (prepared w c method o p) c method w' r →
      Does w c w' r (call_here w c)
  calls w' (Ok (Some d)) n (inl (ss, e, (l, q, g))) =
      does-on q g
      (same-trans tables-too
      (only-tables (only-marked (prepared w c method o p) (spread (prepared w c method o p) c.objects ss) c.holder (c.holders + 1) (calling.fit ss e)) (omega arith)))
      (λ m R. follow-as _ (Ok (Some (called c (first_row_at (prepared w c method o p) method)))) m (call_enters R y z method o p exists ly lz eo ep lo lp lh ss n l k ready.more e))
  calls w' (Err f) n (inl (ss, e, (l, q, g))) =
      subst (λ s. Does w c w' (Err s) (call_here w c)) (sym g)
      (stopped-at w' Fault.FramesFull q (λ m R. call-full R y z method o p exists ly lz eo ep lo lp lh ss n l e))
  calls w' (Ok None) n (inl (ss, e, b)) = absurd b
  calls w' r n (inr (s, e, g, q)) =
      subst (λ t. Does w c w' t (call_here w c)) (sym g)
      (stopped-at w' s q (λ m R. call-lacks R y z method o p exists ly lz eo ep lo lp lh s n e))

-- requires as the code reads it
module _ {w : List ℕ} {c : Machine} (method a n : ℕ) (C : Calling w c method) (ea : a ≡ half_at w (method_place method)) (en : n ≡ byte_at w (method_place method + 2)) where
  pub requires-atoms : (a + n ≤ atom_count w) × (n ≤ 8)
  requires-atoms =
      let f = (C.readable.tables.method_fits method C.exists).formulas.requires in
      (omega (arith, f.1, ea, en), omega (arith, f.0, en))

  pub requires-takes : take_in w (next_view c) (atoms_from w a n) [] ≡ take_in w (next_view c) (requires_at w method) []
  unfolding requires_at
  requires-takes = rw (ea, en)

pub call-null-does :
    {w : List ℕ} {c : Machine} (ready : CanStep w c) → AtKind w c Call → (y o : ℕ) → y ≡ y_at w c.row →
    o ≡ variable_at w (frame_at (c.frames - 1)) y → o ≡ 0 →
    Does w c w (Err Fault.Null) (call_here w c)
unfolding call_step check ◌>>◌ stop_of
call-null-does {w} {c} ready k y o ey eo e =
    does-stop Fault.Null
    (λ m R.
    follow-stop R Fault.Null (call_step (y_at w c.row) (method_at w (member_at w c.row)) (z_at w c.row) m)
    (rw (eq-eqb (value_of m.frame (y_at w c.row)) 0 ((sees R).values (y_at w c.row) (fits ready).y ∙ (ap (variable_at w (frame_at (c.frames - 1))) (sym ey) ∙ (sym eo ∙ e))))))
