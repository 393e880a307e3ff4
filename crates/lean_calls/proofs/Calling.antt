-- `call`: the receiver is an object and requires passes, so the full machine enters the method on the ghost, unless frames are full.
use mathlib.Core.Path.{◌≡◌, refl, sym, ap, ◌∙◌, subst}
use mathlib.Core.Bool.{false, not}
use mathlib.Core.List.{List, []}
use mathlib.Core.Logic.{inl, inr}
use Prim.Native.Nat.{ℕ, suc, ◌+◌, ◌*◌, ◌-◌, ◌≤◌, ◌<◌}
use native.Mathlib.Omega.{arith}
use lib.Dec.{T, eqb, T_not}
use lib.ListN.{length}
use borrow.Author.Tests.{lt-ltb, le-ltb, eq-eqb, ne_eqb}
use Rattle.rules.specs.Limits.{most_frames, most_methods}
use Rattle.rules.specs.Base.{Try, ok, no, ◌>>=◌, ◌>>◌, check}
use Rattle.rules.specs.Answers as Answers
use Rattle.rules.specs.Answers.{null_followed}
use Rattle.rules.specs.Syntax.{Method}
use Rattle.rules.specs.Grammar.{Call, statement_number}
use Rattle.rules.specs.Machine.{Config, Location, on, stop, took, step, value_of, footprint, call_frame, call_step, entered}
use Rattle.rules.specs.Calls.{whole_heap}
use Rattle.rules.specs.Lean as Lean
use Rattle.rules.specs.declared.Machine.{Machine}
use Rattle.soundness.proofs.LeanFollows.{footprint-only}
use Rattle.tables.specs.Layout.{frame_variables, frames_at}
use Rattle.tables.specs.Decode.{y_at, z_at, member_at, method_count, method_at, requires_at, first_row_at, program_in}
use Rattle.tables.specs.Stores.{SameTables, put_word}
use Rattle.tables.proofs.BytesRead.{put-word-length}
use Rattle.tables.proofs.Decoding.{first-row-same}
use Rattle.run_heap.specs.Views.{frame_at, variable_at, fill, frame_put, prepared, next_view, frame_holder, frame_row, frame_method, frame_parameter}
use Rattle.run_footprint.specs.Footprints.{spread, marked, take_in, SharesFit}
use Rattle.run_footprint.proofs.Regions.{only-word, only-fill, only-tables, only-half, only-trans}
use Rattle.run_steps.specs.States.{Represents, most_count}
use Rattle.run_steps.proofs.Moves.{sees}
use Rattle.run_calls.specs.Calls.{call_here}
use Rattle.run_calls.proofs.Calling as Calls
use Rattle.machine.proofs.Stepping.{call-is, does-as}
use Rattle.lean_heap.specs.declared.Counters.{Counters}
use Rattle.lean_heap.specs.declared.Stop.{Stop}
use Rattle.std.specs.Prelude.{Some, Ok, Err}
use Rattle.lean_heap.specs.Ghosts.{Bare, Stands, Unstuck, Follows, Does, CanStep, AtKind, full, stop_in, stop_of}
use Rattle.lean_heap.proofs.Bares.{half-both, word-both, fill-both, ghost-marked, ghost-holder, ghost-method}
use Rattle.lean_heap.proofs.Following.{try_ok, check-passes, ghost-ready, ghost-tables, ghost-size, y-is, z-is, member_is, frames-fit, fits, kind-is, step_is, on-as, variable-is, does-on, does-stop}
use Rattle.lean_calls.specs.Calls.{called, framed}
use Rattle.lean_calls.proofs.Stuck.{fault-of, not_stopped}

-- THE TWO FRAMES
fill-length : (w : List ℕ) (i n v : ℕ) → length (fill w i n v) ≡ length w
fill-length w i n v = (only-fill i (i + n * 4) w i n v (omega arith) (omega arith)).size

framed-bare :
    {v w : List ℕ} (i holder row method o p : ℕ) → frame_at i + 144 ≤ length v → Bare v w →
    Bare (frame_put v (frame_at i) (frame_at i + 72) holder row method o p) (framed w (frame_at i) (frame_at i + 72) row o p)
unfolding frame_put framed
framed-bare {v} i holder row method o p l B =
    let b : ℕ = frame_at i + 72 in
    let v1 : List ℕ = fill v b frame_variables 0 in
    let l1 : length v1 ≡ length v = fill-length v b frame_variables 0 in
    let v2 : List ℕ = put_word v1 b o in
    let l2 : length v2 ≡ length v = put-word-length v1 b o ∙ l1 in
    let v3 : List ℕ = put_word v2 (b + frame_parameter) p in
    let l3 : length v3 ≡ length v = put-word-length v2 (b + frame_parameter) p ∙ l2 in
    let l4 : length (put_word v3 (frame_at i + frame_holder) holder) ≡ length v = put-word-length v3 (frame_at i + frame_holder) holder ∙ l3 in
    let e : frame_at i + 72 + frame_method ≡ frame_at (suc i) + frame_method = omega arith in
    rw e
    (ghost-method (suc i) method
    (half-both (frame_at i + frame_row) row (omega (arith, l, l4))
    (ghost-holder i holder
    (word-both (b + frame_parameter) p (omega (arith, l, l2))
    (word-both b o (omega (arith, l, l1)) (fill-both b frame_variables 0 (omega (arith, l)) B))))))

framed-tables : (w : List ℕ) (i row o p : ℕ) → i < most_frames → SameTables w (framed w (frame_at i) (frame_at i + 72) row o p)
unfolding framed
framed-tables w i row o p l =
    let b : ℕ = frame_at i + 72 in
    let z : ℕ = frames_at + 8192 in
    only-tables
    (only-trans (only-fill frames_at z w b frame_variables 0 (omega arith) (omega arith))
    (only-trans (only-word frames_at z (fill w b frame_variables 0) b o (omega arith) (omega arith))
    (only-trans (only-word frames_at z (put_word (fill w b frame_variables 0) b o) (b + frame_parameter) p (omega arith) (omega arith))
    (only-half frames_at z (put_word (put_word (fill w b frame_variables 0) b o) (b + frame_parameter) p) (frame_at i + frame_row) row (omega arith) (omega arith)))))
    (omega arith)

module _ {w : List ℕ} {c : Counters} (k : AtKind w c Call) where
  pub method-small : CanStep w c → {n : ℕ} → n ≡ member_at w c.row → n < most_methods
  unfolding statement_number
  method-small R e =
      let S = R.stands in
      omega (arith, e, member_is S, (fits S).method (kind-is S k), S.represents.tables.methods)

  module _ {m : Config} (S : Stands w c m) (U : Unstuck (step whole_heap (program_in w) m)) (more : c.steps < most_count) where
    abbrev v : List ℕ
    v = S.ghost

    abbrev K : Machine
    K = full c S.holder S.holders

    abbrev M : Method
    M = method_at S.ghost (member_at S.ghost c.row)

    abbrev Y : ℕ
    Y = y_at S.ghost c.row

    abbrev Z : ℕ
    Z = z_at S.ghost c.row

    here : (m : Config) → Represents v K m → step whole_heap (program_in S.ghost) m ≡ call_here v K m
    here = call-is whole_heap (ghost-ready S more) (kind-is S k)

    is-here : step whole_heap (program_in w) m ≡ call_here v K m
    is-here = step_is S _ (here m S.represents)

    -- the receiver is an object, and requires passes
    passes :
        (value_of m.frame Y ≡ 0 → ⊥)
        × ((A : List Location) × (footprint m.heap (call_frame m M Y Z) M.requires ≡ ok A))
    unfolding call_step
    passes =
        let (n, u) = check-passes (not (eqb (value_of m.frame Y) 0)) null_followed _ (λ f. f) (subst Unstuck is-here U) in
        let (A, e, _) = try_ok (footprint m.heap (call_frame m M Y Z) M.requires) _ _ (footprint-only m.heap (call_frame m M Y Z) M.requires) u in
        (λ q. T_not (eqb (value_of m.frame Y) 0) n (subst T (sym (eq-eqb _ 0 q)) tt), (A, e))

    is-object : eqb (value_of m.frame Y) 0 ≡ false
    is-object = ne_eqb _ 0 passes.0

    -- frames are full
    pub call-full : most_frames ≤ c.frames → step whole_heap (program_in w) m ≡ stop (stop_of Stop.FramesFull)
    unfolding call_step check ◌>>◌ ◌>>=◌ took stop_of stop_in Lean.stop_of
    call-full l =
        is-here
        ∙ rw (is-object, passes.1.1, le-ltb (suc (length m.callers)) most_frames (omega (arith, l, S.represents.frames)))

    module _ (lf : c.frames < most_frames) where
      goes : call_here v K m ≡ on (entered m (call_frame m M Y Z) passes.1.0)
      unfolding call_step check ◌>>◌ ◌>>=◌ took
      goes = rw (is-object, passes.1.1, lt-ltb (suc (length m.callers)) most_frames (omega (arith, lf, S.represents.frames)))

      module _
          (y z o p n : ℕ) (ey : y ≡ y_at w c.row) (ez : z ≡ z_at w c.row) (en : n ≡ member_at w c.row)
          (eo : o ≡ variable_at w (frame_at (c.frames - 1)) y) (ep : p ≡ variable_at w (frame_at (c.frames - 1)) z)
          (lo : o < 4294967296) (lp : p < 4294967296) where
        ly : y < frame_variables
        ly = omega (arith, ey, y-is S, (fits S).y)

        lz : z < frame_variables
        lz = omega (arith, ez, z-is S, (fits S).z)

        o_is : o ≡ variable_at v (frame_at (c.frames - 1)) y
        o_is = eo ∙ variable-is S y ly

        p-is : p ≡ variable_at v (frame_at (c.frames - 1)) z
        p-is = ep ∙ variable-is S z lz

        not_null : o ≡ 0 → ⊥
        not_null e =
            passes.0 (ap (value_of m.frame) (sym (ey ∙ y-is S)) ∙ ((sees S.represents).values y ly ∙ (sym o_is ∙ e)))

        -- the ghost with the next frame in its place
        abbrev u : List ℕ
        u = prepared S.ghost (full c S.holder S.holders) n o p

        called-with : (ss : List ℕ) × (take_in u (next_view K) (requires_at u n) [] ≡ ok ss)
        called-with = go (take_in u (next_view K) (requires_at u n) []) refl
          where
            go :
                (t : Try Answers.Stop (List ℕ)) → take_in u (next_view K) (requires_at u n) [] ≡ t →
                (ss : List ℕ) × (take_in u (next_view K) (requires_at u n) [] ≡ ok ss)
            go (ok ss) e = (ss, e)
            go (no s) e =
                let (f, q) = fault-of s in
                not_stopped goes
                ((Calls.calls (ghost-ready S more) (kind-is S k) y z n o p (ey ∙ y-is S) (ez ∙ z-is S) (en ∙ member_is S) o_is p-is lo lp u
                (Err f) not_null (inr (f, e ∙ ap no q, refl, refl))).follows m S.represents).0

        pub call-on :
            Follows (framed w (frame_at (c.frames - 1)) (frame_at (c.frames - 1) + 72) c.row o p) c
            (Ok (Some (called c (first_row_at u n)))) m (step whole_heap (program_in w) m)
        call-on =
            let (ss, e) = called-with in
            let g = ghost-ready S more in
            let h : ℕ = S.holders + 1 in
            let D =
            Calls.calls g (kind-is S k) y z n o p (ey ∙ y-is S) (ez ∙ z-is S) (en ∙ member_is S) o_is p-is lo lp
            (marked u (spread u c.objects ss) S.holder h) (Ok (Some (full (called c (first_row_at u n)) h h))) not_null
            (inl (ss, e, (lf, refl, refl))) in
            let fit : SharesFit (spread u c.objects ss) =
            (Calls.calling g (kind-is S k) y z n o p (ey ∙ y-is S) (ez ∙ z-is S) (en ∙ member_is S) o_is p-is lo lp).fit ss e in
            let i : frame_at c.frames ≡ frame_at (c.frames - 1) + 72 = omega (arith, (frames-fit S).0) in
            on-as S h h (omega (arith, S.base, (frames-fit S).0)) (does-as here D)
            (ghost-marked (spread u c.objects ss) S.holder h fit
            (rw i (framed-bare (c.frames - 1) S.holder c.row n o p (omega (arith, lf, ghost-size S)) S.bare)))

        pub call-first : first_row_at w n ≡ first_row_at u n
        unfolding statement_number
        call-first =
            let I = S.represents in
            let exists : n < method_count v = omega (arith, en, member_is S, (fits S).method (kind-is S k)) in
            let l : n < most_methods = omega (arith, exists, I.tables.methods) in
            let lh : S.holder < 4294967296 = omega (arith, I.last, I.given, I.most, more) in
            first-row-same v w (ghost-tables S) n l
            ∙ sym (first-row-same v u (Calls.call-tables I y z n o p exists ly lz o_is p-is lo lp lh) n l)

  -- THE CODE
  pub frames-full : CanStep w c → most_frames ≤ c.frames → Does w c w (Err Stop.FramesFull)
  frames-full R l = does-stop Stop.FramesFull (λ m S U. (call-full S U R.more l, S))

  pub call-does :
      (R : CanStep w c) (b y z o p n first : ℕ) {w' : List ℕ} {d : Counters} → c.frames < most_frames → b ≡ frame_at (c.frames - 1) →
      y ≡ y_at w c.row → o ≡ variable_at w b y → o < 4294967296 → z ≡ z_at w c.row → p ≡ variable_at w b z → p < 4294967296 →
      n ≡ member_at w c.row → first ≡ first_row_at w n → w' ≡ framed w b (b + 72) c.row o p → d ≡ called c first →
      Does w c w' (Ok (Some d))
  call-does R b y z o p n first lf eb ey eo lo ez ep lp en ef e q =
      does-on (e ∙ rw eb) (q ∙ ap (called c) ef) (framed-tables w (c.frames - 1) c.row o p (omega (arith, lf)))
      (λ m S U.
      let eo' : o ≡ variable_at w (frame_at (c.frames - 1)) y = eo ∙ rw eb in
      let ep' : p ≡ variable_at w (frame_at (c.frames - 1)) z = ep ∙ rw eb in
      rw (call-first S U R.more lf y z o p n ey ez en eo' ep' lo lp) (call-on S U R.more lf y z o p n ey ez en eo' ep' lo lp))
