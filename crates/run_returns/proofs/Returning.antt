-- `end`: the caller gains what ensures takes, and its x the result.
use mathlib.Core.Path.{◌≡◌, refl, sym, ap, ◌∙◌, subst}
use mathlib.Core.List.{List, [], ◌∷◌, ◌++◌}
use mathlib.Core.Logic.{inr, ⊎_elim}
use Prim.Native.Nat.{ℕ, suc, ◌+◌, ◌*◌, ◌-◌, ◌≤◌, ◌<◌}
use native.Mathlib.Omega.{arith}
use lib.ListN.{length}
use Rattle.rules.specs.Base.{Try, ok, no, ◌>>=◌}
use Rattle.rules.specs.Syntax.{Row, row_numbered, result_variable}
use Rattle.rules.specs.Answers.{Stop}
use Rattle.rules.specs.Grammar.{Call, statement_number}
use Rattle.rules.specs.Machine.{Heap, Frame, Location, halves, value_of, footprint, advance, bind, holding, with_frame, statement_of, target_of, returned, end_step}
use Rattle.rules.specs.declared.Machine.{Machine}
use Rattle.rules.proofs.Sets.{halves-append}
use Rattle.rules.proofs.Footprints.{footprint-held}
use Rattle.tables.specs.Layout.{frame_variables, holders_at, objects_at, frames_at}
use Rattle.tables.specs.Decode.{program_in, byte_at, half_at, method_place, operands_at, stmt_at, row_at, kind_at, x_at, row_count, method_count, atoms_from, atom_count, ensures_at}
use Rattle.tables.specs.Stores.{SameTables, put_word}
use Rattle.tables.proofs.Rows.{row_in}
use Rattle.tables.proofs.Statements.{call-means}
use Rattle.tables.proofs.BytesRead.{same-trans, same_refl}
use Rattle.tables.proofs.Decoding.{tables-same, rows-count-same, kind-same}
use Rattle.run_heap.specs.declared.Fault.{Fault}
use Rattle.std.specs.Prelude.{Some, None, Ok, Err}
use Rattle.run_heap.specs.declared.View.{View}
use Rattle.run_heap.specs.Views.{frame_at, variable_at, saved_holder, saved_row, method_of, halves_of, view_of, stop_of}
use Rattle.run_footprint.specs.Footprints.{spread, take_in, marked, SharesFit}
use Rattle.run_steps.specs.States.{FrameIs, CallerIs, CallersAre, Represents, Follows, Does, CanStep}
use Rattle.run_returns.specs.Returns.{back, end_here}
use Rattle.run_steps.proofs.Seeing.{Matches, FormulaOk, no-footprint, ok-footprint, atoms-ok}
use Rattle.run_footprint.proofs.Regions.{Only, only-tables, only-word}
use Rattle.run_footprint.proofs.Handing.{only-marked}
use Rattle.run_steps.proofs.Keeping.{same-frame, ensures-kept, callers-kept}
use Rattle.run_steps.proofs.Moves.{sees, moved_to, next-is, next_fits, follow-stop, follow-on}
use Rattle.run_steps.proofs.Changes.{put-variable, marks-only, gained, others-kept, heap-marked}
use Rattle.run_steps.proofs.Steps.{frame-holding}
use Rattle.run_steps.proofs.Doing.{does-on, frames-fit}

-- the variable that a call sets
call-target : (w : List ℕ) (i : ℕ) → kind_at w i ≡ statement_number Call → target_of (stmt_at w i) ≡ x_at w i
unfolding target_of statement_number
call-target w i e = rw (call-means w (operands_at w i) e)

-- the row of a frame
pub row-of : {w : List ℕ} {n b number row : ℕ} {F : Frame} → FrameIs w n b number row F → row_numbered (program_in w) F.row ≡ row_at w row
row-of {w} {row = row} I = rw I.row_is (row_in w row I.row_fits)

module _ {w : List ℕ} {c : Machine} {h : _} {F C : Frame} {Cs : List Frame}
    (R : Represents w c (record { heap = h; frame = F; callers = C ∷ Cs })) where
  caller : CallerIs w c.objects (length Cs) c.holder C
  unfolding CallersAre
  caller = R.callers.0

  below : CallersAre w c.objects (saved_holder w (length Cs)) Cs
  unfolding CallersAre
  below = R.callers.1

  -- the caller runs again, with the set that it gains; its row and x are as at the call
  regained :
      (A : List Location) (ss : List ℕ) → saved_holder w (length Cs) < 4294967296 → Matches w c.objects A ss →
      ((p : Location) → halves A p ≤ halves F.held p) →
      Represents (marked w ss c.holder (saved_holder w (length Cs))) (back c (saved_holder w (length Cs)) (saved_row w (length Cs)))
      (record { heap = h; frame = holding (C.held ++ A) C; callers = Cs })
  unfolding holding
  regained A ss l M held =
      let v : ℕ = saved_holder w (length Cs) in
      let w' : List ℕ = marked w ss c.holder v in
      let s : Only holders_at objects_at w w' =
      marks-only R A ss v M in
      let t : SameTables w w' = only-tables s (omega arith) in
      record {
        tables = tables-same w w' t R.tables;
        heap = heap-marked R A ss v M c.holders l (omega (arith, caller.below, R.last)) (omega arith);
        frames = omega (arith, R.frames);
        most = omega (arith, R.most);
        frame =
            frame-holding (C.held ++ A) (same-frame holders_at objects_at w w' (length Cs) s (inr (omega arith))).variables
            (rows-count-same w w' t) (λ p. more p) caller.frame;
        ensures =
            ensures-kept w w' t R.tables _ C (same-frame holders_at objects_at w w' (length Cs) s (inr (omega arith))).method
            caller.ensures;
        callers =
            callers-kept w w' t R.tables c.objects c.objects v Cs (λ j _. same-frame holders_at objects_at w w' j s (inr (omega arith)))
            (λ n o k p. others-kept R A ss v M held l n (omega (arith, k, caller.below)) (λ e. omega (arith, e, k)) p) below;
        last = omega (arith, caller.below, R.last);
        given = omega (arith, R.given, R.frames);
      }
    where
      more :
          (p : Location) → halves (C.held ++ A) p ≡ halves_of (marked w ss c.holder (saved_holder w (length Cs))) c.objects (saved_holder w (length Cs)) p
      more p =
          omega (
            arith,
            halves-append C.held A p,
            gained R A ss (saved_holder w (length Cs)) M held l (λ e. omega (arith, e, caller.below)) p,
            caller.frame.held p,
          )

  -- the formula of `end`
  ensures-is : F.ensures ≡ ensures_at w (method_of w (suc (length Cs)))
  ensures-is = ⊎_elim (λ z. absurd (omega arith)) (λ p. p.1) R.ensures

  method_fits : method_of w (suc (length Cs)) < method_count w
  method_fits = ⊎_elim (λ z. absurd (omega arith)) (λ p. p.0) R.ensures

  ensures-ok : FormulaOk (ensures_at w (method_of w (suc (length Cs))))
  unfolding ensures_at
  ensures-ok = atoms-ok w R.tables _ _ (R.tables.method_fits _ method_fits).formulas.ensures.1

  row_stays : (w' : List ℕ) → SameTables w w' → kind_at w' (saved_row w (length Cs)) ≡ statement_number Call
  row_stays w' t =
      kind-same w w' t (saved_row w (length Cs)) (omega (arith, caller.frame.row_fits, R.tables.rows)) ∙ caller.at_call

  returns-on :
      (ss : List ℕ) (v : ℕ) → saved_holder w (length Cs) < 4294967296 → v < 4294967296 → v ≡ value_of F result_variable →
      x_at w (saved_row w (length Cs)) < frame_variables →
      take_in w (view_of c) (ensures_at w (method_of w (suc (length Cs)))) [] ≡ ok ss →
      Follows (put_word (marked w (spread w c.objects ss) c.holder (saved_holder w (length Cs))) (frame_at (length Cs) + x_at w (saved_row w (length Cs)) * 4) v) c
      (Ok (Some (back c (saved_holder w (length Cs)) (saved_row w (length Cs) + 1))))
      (record { heap = h; frame = F; callers = C ∷ Cs })
      (end_step (program_in w) (record { heap = h; frame = F; callers = C ∷ Cs }) (C ∷ Cs))
  unfolding end_step returned with_frame advance bind holding ◌>>=◌ row_at statement_of statement_number
  returns-on ss v l lv ev lx e =
      let n : ℕ = saved_holder w (length Cs) in
      let rs : List ℕ = spread w c.objects ss in
      let x : ℕ = x_at w (saved_row w (length Cs)) in
      let (A, a, M) = ok-footprint (sees R) _ ss ensures-ok e in
      let a' : footprint h F F.ensures ≡ ok A = ap (footprint h F) ensures-is ∙ a in
      let R1 = regained A rs l M (footprint-held h F _ A a) in
      let R2 = put-variable R1 x v lx lv in
      let t1 : SameTables w (marked w rs c.holder n) = only-tables (only-marked w rs c.holder n M.fit) (omega arith) in
      let t2 : SameTables (marked w rs c.holder n) (put_word (marked w rs c.holder n) (frame_at (length Cs) + x * 4) v) =
      only-tables (only-word frames_at (frames_at + 8192) (marked w rs c.holder n) (frame_at (length Cs) + x * 4) v (omega arith) (omega (arith, R.most, R.frames))) (omega arith) in
      let k : kind_at (put_word (marked w rs c.holder n) (frame_at (length Cs) + x * 4) v) (saved_row w (length Cs)) ≡ statement_number Call = row_stays _ (same-trans t1 t2) in
      let target : target_of (statement_of (program_in w) C) ≡ x = ap (λ (r : Row). target_of r.stmt) (row-of caller.frame) ∙ target_is in
      follow-on R (back c n (saved_row w (length Cs) + 1)) _ _ (rw (a', target, ← ev)) refl
      (moved_to R2 (saved_row w (length Cs) + 1) (c.steps + 1) _ (next_fits R2 (λ z. omega (arith, z, k))) (next-is R2) (omega arith))
    where
      target_is : target_of (row_at w (saved_row w (length Cs))).stmt ≡ x_at w (saved_row w (length Cs))
      target_is = call-target w (saved_row w (length Cs)) caller.at_call

  returns-stop :
      (s : Fault) → take_in w (view_of c) (ensures_at w (method_of w (suc (length Cs)))) [] ≡ no (stop_of s) →
      Follows w c (Err s) (record { heap = h; frame = F; callers = C ∷ Cs })
      (end_step (program_in w) (record { heap = h; frame = F; callers = C ∷ Cs }) (C ∷ Cs))
  unfolding end_step ◌>>=◌
  returns-stop s e =
      follow-stop R s _ (ap (λ (t : Try Stop (List Location)). t >>= λ A. ok (returned (program_in w) (record { heap = h; frame = F; callers = C ∷ Cs }) C Cs A)) (ap (footprint h F) ensures-is ∙ no-footprint (sees R) _ (stop_of s) ensures-ok e))

  pub saved-fits : (saved_row w (length Cs) < row_count w) × (method_of w (suc (length Cs)) < method_count w)
  saved-fits = (caller.frame.row_fits, method_fits)

-- THE CODE
module _ {w : List ℕ} {c : Machine} (ready : CanStep w c) where
  pub end-done : c.frames ≡ 1 → Does w c w (Ok None) (end_here w)
  unfolding end_step
  end-done e = record { tables = same_refl w; follows = λ m R. go m.heap m.frame m.callers R }
    where
      go :
          (h : Heap) (F : Frame) (Fs : List Frame) → Represents w c (record { heap = h; frame = F; callers = Fs }) →
          Follows w c (Ok None) (record { heap = h; frame = F; callers = Fs }) (end_step (program_in w) (record { heap = h; frame = F; callers = Fs }) Fs)
      go h F [] R = (refl, R)
      go h F (C ∷ Cs) R = absurd (omega (arith, R.frames))

  module _ (many : c.frames ≡ 1 → ⊥) where
    pub last-saved : (saved_row w (c.frames - 2) < row_count w) × (method_of w (c.frames - 1) < method_count w)
    last-saved = go ready.state.heap ready.state.frame ready.state.callers ready.represents
      where
        go :
            (h : Heap) (F : Frame) (Fs : List Frame) → Represents w c (record { heap = h; frame = F; callers = Fs }) →
            (saved_row w (c.frames - 2) < row_count w) × (method_of w (c.frames - 1) < method_count w)
        go h F [] R = absurd (many R.frames)
        go h F (C ∷ Cs) R =
            let i : c.frames - 2 ≡ length Cs = omega (arith, R.frames) in
            let j : c.frames - 1 ≡ suc (length Cs) = omega (arith, R.frames) in
            rw (i, j) (saved-fits R)

    pub end-stops :
        (s : Fault) → take_in w (view_of c) (ensures_at w (method_of w (c.frames - 1))) [] ≡ no (stop_of s) →
        Does w c w (Err s) (end_here w)
    end-stops s e = record { tables = same_refl w; follows = λ m R. go m.heap m.frame m.callers R }
      where
        go :
            (h : Heap) (F : Frame) (Fs : List Frame) → Represents w c (record { heap = h; frame = F; callers = Fs }) →
            Follows w c (Err s) (record { heap = h; frame = F; callers = Fs }) (end_step (program_in w) (record { heap = h; frame = F; callers = Fs }) Fs)
        go h F [] R = absurd (many R.frames)
        go h F (C ∷ Cs) R =
            let j : suc (length Cs) ≡ c.frames - 1 = omega (arith, R.frames) in
            returns-stop R s (rw j e)

    pub end_fits :
        (ss : List ℕ) → take_in w (view_of c) (ensures_at w (method_of w (c.frames - 1))) [] ≡ ok ss →
        SharesFit (spread w c.objects ss)
    end_fits ss e = go ready.state.heap ready.state.frame ready.state.callers ready.represents
      where
        go :
            (h : Heap) (F : Frame) (Fs : List Frame) → Represents w c (record { heap = h; frame = F; callers = Fs }) →
            SharesFit (spread w c.objects ss)
        go h F [] R = absurd (many R.frames)
        go h F (C ∷ Cs) R =
            let j : suc (length Cs) ≡ c.frames - 1 = omega (arith, R.frames) in
            let (A, a, M) = ok-footprint (sees R) (ensures_at w (method_of w (suc (length Cs)))) ss (ensures-ok R) (rw j e) in
            M.fit

    pub leave-does :
        (ss : List ℕ) (n r x v : ℕ) {w' : List ℕ} {d : Machine} →
        take_in w (view_of c) (ensures_at w (method_of w (c.frames - 1))) [] ≡ ok ss → n ≡ saved_holder w (c.frames - 2) → n < 4294967296 →
        r ≡ saved_row w (c.frames - 2) → x ≡ x_at w r → v ≡ variable_at w (frame_at (c.frames - 1)) result_variable → v < 4294967296 →
        w' ≡ put_word (marked w (spread w c.objects ss) c.holder n) (frame_at (c.frames - 2) + x * 4) v → d ≡ back c n (r + 1) →
        Does w c w' (Ok (Some d)) (end_here w)
    leave-does ss n r x v {w'} {d} e en ln er ex ev lv p q =
        does-on p q
        (same-trans (only-tables (only-marked w (spread w c.objects ss) c.holder n (end_fits ss e)) (omega arith))
        (only-tables (only-word frames_at (frames_at + 8192) (marked w (spread w c.objects ss) c.holder n) (frame_at (c.frames - 2) + x * 4) v (omega arith) (omega (arith, xl, (frames-fit ready).1))) (omega arith)))
        (λ m R. go m.heap m.frame m.callers R)
      where
        rl : r < row_count w
        rl = omega (arith, er, last-saved.0)

        xl : x < frame_variables
        xl = omega (arith, ex, (ready.represents.tables.row_fits r rl).operands.x)

        go :
            (h : Heap) (F : Frame) (Fs : List Frame) → Represents w c (record { heap = h; frame = F; callers = Fs }) →
            Follows (put_word (marked w (spread w c.objects ss) c.holder n) (frame_at (c.frames - 2) + x * 4) v) c (Ok (Some (back c n (r + 1))))
            (record { heap = h; frame = F; callers = Fs }) (end_step (program_in w) (record { heap = h; frame = F; callers = Fs }) Fs)
        go h F [] R = absurd (many R.frames)
        go h F (C ∷ Cs) R =
            let i : c.frames - 2 ≡ length Cs = omega (arith, R.frames) in
            let j : suc (length Cs) ≡ c.frames - 1 = omega (arith, R.frames) in
            let r' : r ≡ saved_row w (length Cs) = er ∙ ap (saved_row w) i in
            let n' : n ≡ saved_holder w (length Cs) = en ∙ ap (saved_holder w) i in
            let x' : x ≡ x_at w (saved_row w (length Cs)) = ex ∙ ap (x_at w) r' in
            rw (i, r', n', x')
            (returns-on R ss v (subst (λ (k : ℕ). k < 4294967296) n' ln) lv (ev ∙ sym ((sees R).values result_variable (omega arith)))
            (subst (λ (k : ℕ). k < frame_variables) x' xl) (rw j e))

    -- the atoms of ensures
    module _ (mt a n : ℕ) (em : mt ≡ method_of w (c.frames - 1)) (ea : a ≡ half_at w (method_place mt + 4)) (en : n ≡ byte_at w (method_place mt + 3)) where
      pub end-method : mt < method_count w
      end-method = omega (arith, em, last-saved.1)

      pub end-atoms : (a + n ≤ atom_count w) × (n ≤ 8)
      end-atoms =
          let f = (ready.represents.tables.method_fits mt end-method).formulas.ensures in
          (omega (arith, f.1, ea, en), omega (arith, f.0, en))

      pub end-takes : (v : View) → v ≡ view_of c → take_in w v (atoms_from w a n) [] ≡ take_in w (view_of c) (ensures_at w (method_of w (c.frames - 1))) []
      unfolding ensures_at
      end-takes v ev = rw (ev, ea, en, em)
