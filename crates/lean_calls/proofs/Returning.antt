-- `return` and `end`: ensures passes, so the full machine goes back on the ghost. It puts the result into the frame that ends, the lean one
-- does not: that frame is above the caller's.
use mathlib.Core.Path.{◌≡◌, refl, sym, ap, ◌∙◌, subst}
use mathlib.Core.Bool.{cond}
use mathlib.Core.List.{List, [], ◌∷◌}
use mathlib.Core.Logic.{◌⊎◌, inl, inr, ⊎_elim}
use Prim.Native.Nat.{ℕ, suc, ◌+◌, ◌*◌, ◌-◌, ◌≤◌, ◌<◌}
use native.Mathlib.Omega.{arith}
use lib.Dec.{eqb}
use lib.ListN.{length}
use Rattle.rules.specs.Limits.{most_statements}
use Rattle.rules.specs.Base.{Try, ok, no, ◌>>=◌}
use Rattle.rules.specs.Answers as Answers
use Rattle.rules.specs.Syntax.{Program, result_variable}
use Rattle.rules.specs.Grammar.{Return, End, statement_number}
use Rattle.rules.specs.Machine.{Frame, Config, Location, on, done, took, step, footprint, return_step, end_step, returned}
use Rattle.rules.specs.Calls.{whole_heap}
use Rattle.rules.specs.declared.Machine.{Machine}
use Rattle.soundness.proofs.LeanFollows.{footprint-only}
use Rattle.tables.specs.declared.Operands.{Operands}
use Rattle.tables.specs.Layout.{frame_variables, frames_at}
use Rattle.tables.specs.Decode.{x_at, ensures_at, program_in}
use Rattle.tables.specs.Stores.{put_word}
use Rattle.tables.proofs.BytesRead.{same_refl, put-word-length}
use Rattle.run_heap.specs.Views.{frame_at, variable_at, saved_holder, saved_row, method_of, view_of}
use Rattle.run_footprint.specs.Footprints.{spread, take_in, SharesFit}
use Rattle.run_footprint.proofs.Regions.{Only, only-word, only-tables}
use Rattle.run_footprint.proofs.Handing.{only-marked}
use Rattle.run_steps.specs.States as States
use Rattle.run_steps.specs.States.{CallersAre, Represents}
use Rattle.run_steps.proofs.Keeping.{same-frame}
use Rattle.run_steps.proofs.Changes.{this_variable}
use Rattle.run_returns.specs.Returns.{source_of, back_here}
use Rattle.run_returns.proofs.Returning as Returns
use Rattle.run_returns.proofs.Resulting.{source_fits, end-ready, followed, return-goes}
use Rattle.machine.proofs.Stepping.{back_is, does-as}
use Rattle.lean_heap.specs.declared.Counters.{Counters}
use Rattle.std.specs.Prelude.{Some, None, Ok, Err}
use Rattle.lean_heap.specs.Ghosts.{Stands, Unstuck, Follows, Does, CanStep, AtKind, full}
use Rattle.lean_heap.proofs.Bares.{word-both, ghost-marked, bare-row}
use Rattle.lean_heap.proofs.Following.{try_ok, ghost-ready, ghost-tables, ghost-size, row_is, frames-fit, kind-is, step_is, on-as, variable-is, does-on, has-frames}
use Rattle.lean_calls.specs.Calls.{back}
use Rattle.lean_calls.proofs.Stuck.{fault-of, not_stopped}
use Rattle.lean_calls.proofs.Above.{above-free, words-apart}

-- WHAT THE DEFINITION DOES

-- main's `end` is the last step
ends-main : (P : Program) (m : Config) (Fs : List Frame) → length Fs ≡ 0 → end_step P m Fs ≡ done
unfolding end_step
ends-main P m [] e = refl
ends-main P m (C ∷ Cs) e = absurd (omega (arith, e))

-- another goes on where it is not stuck
ends-call :
    (P : Program) (m : Config) (Fs : List Frame) → (length Fs ≡ 0 → ⊥) → Unstuck (end_step P m Fs) →
    (m' : Config) × (end_step P m Fs ≡ on m')
unfolding end_step took ◌>>=◌
ends-call P m [] n u = absurd (n refl)
ends-call P m (C ∷ Cs) n u =
    let (A, e, _) = try_ok (footprint m.heap m.frame m.frame.ensures) _ _ (footprint-only m.heap m.frame m.frame.ensures) u in
    (returned P m C Cs A, ap (λ (t : Try Answers.Stop (List Location)). took (t >>= λ A. ok (returned P m C Cs A))) e)

-- a caller's number is below the running frame's
saved-below : {v : List ℕ} {K : Machine} {m : Config} → Represents v K m → (K.frames ≡ 1 → ⊥) → saved_holder v (K.frames - 2) < K.holder
unfolding CallersAre
saved-below {v} {K} {m} I many = go m.callers I.frames I.callers
  where
    go : (Fs : List Frame) → K.frames ≡ suc (length Fs) → CallersAre v K.objects K.holder Fs → saved_holder v (K.frames - 2) < K.holder
    go [] e C = absurd (many e)
    go (F ∷ Fs) e C =
        let i : length Fs ≡ K.frames - 2 = omega (arith, e) in
        subst (λ (n : ℕ). saved_holder v n < K.holder) i C.0.below

module _ {w : List ℕ} {c : Counters} (k : AtKind w c Return ⊎ AtKind w c End) (R : CanStep w c) where
  -- WHAT IS READ
  module _ {m : Config} (S : Stands w c m) where
    source_is : source_of w c.row ≡ source_of S.ghost c.row
    unfolding source_of
    source_is = ap (λ (r : Operands). cond (eqb r.kind (statement_number End)) result_variable r.x) (row_is S)

  pub source-small : {s : ℕ} → s ≡ source_of w c.row → s < frame_variables
  source-small e = omega (arith, e, source_is R.stands, source_fits (ghost-ready R.stands R.more))

  module _ (many : c.frames ≡ 1 → ⊥) (r : ℕ) (er : r ≡ saved_row w (c.frames - 2)) where
    module _ {m : Config} (S : Stands w c m) where
      saved-fits : r < most_statements
      saved-fits =
          omega (arith, er, bare-row S.bare (c.frames - 2), (Returns.last-saved (ghost-ready S R.more) many).0, S.represents.tables.rows)

      x-is : x_at w r ≡ x_at S.ghost r
      x-is = (ghost-tables S).bytes _ (omega arith) (omega (arith, saved-fits))

    pub saved-small : r < most_statements
    saved-small = saved-fits R.stands

    pub target_small : {x : ℕ} → x ≡ x_at w r → x < frame_variables
    target_small ex =
        let S = R.stands in
        let l = (Returns.last-saved (ghost-ready S R.more) many).0 in
        omega (arith, ex, x-is S, (S.represents.tables.row_fits r (omega (arith, er, bare-row S.bare (c.frames - 2), l))).operands.x)

  -- THE STEP
  module _ {m : Config} (S : Stands w c m) where
    abbrev v : List ℕ
    v = S.ghost

    abbrev K : Machine
    K = full c S.holder S.holders

    here : (m : Config) → Represents v K m → step whole_heap (program_in S.ghost) m ≡ back_here v K m
    here = back_is whole_heap (⊎_elim (λ e. inl (kind-is S e)) (λ e. inr (kind-is S e)) k)

    is-here : step whole_heap (program_in w) m ≡ back_here v K m
    is-here = step_is S _ (here m S.represents)

    is_done : c.frames ≡ 1 → step whole_heap (program_in w) m ≡ done
    unfolding return_step
    is_done e = is-here ∙ ends-main _ _ m.callers (omega (arith, e, S.represents.frames))

    module _ (U : Unstuck (step whole_heap (program_in w) m)) (many : c.frames ≡ 1 → ⊥) where
      goes : (m' : Config) × (back_here v K m ≡ on m')
      unfolding return_step
      goes = ends-call _ _ m.callers (λ z. many (S.represents.frames ∙ ap suc z)) (subst Unstuck is-here U)

      module _
          (s n r x : ℕ) (es : s ≡ source_of w c.row) (en : n ≡ variable_at w (frame_at (c.frames - 1)) s) (ln : n < 4294967296)
          (er : r ≡ saved_row w (c.frames - 2)) (ex : x ≡ x_at w r) where
        -- where the result stands, and x of the caller
        abbrev from : ℕ
        from = frame_at (c.frames - 1) + 56

        abbrev to : ℕ
        to = frame_at (c.frames - 2) + x * 4

        lx : x < frame_variables
        lx = target_small many r er ex

        first : to + 4 ≤ from
        first = omega (arith, lx, many, (frames-fit S).0)

        -- the ghost with the result put
        abbrev v₁ : List ℕ
        v₁ = put_word S.ghost (frame_at (c.frames - 1) + 56) n

        s-is : s ≡ source_of v c.row
        s-is = es ∙ source_is S

        n-is : n ≡ variable_at v (frame_at (c.frames - 1)) s
        n-is = en ∙ variable-is S s (source-small es)

        g : States.CanStep v K
        g = ghost-ready S R.more

        ready : States.CanStep v₁ K
        ready = end-ready g (view_of K) refl s n s-is n-is ln refl

        only-result : Only from (from + 4) v v₁
        only-result = only-word from (from + 4) v from n (omega arith) (omega arith)

        -- ensures passes
        passed : (ss : List ℕ) × (take_in v₁ (view_of K) (ensures_at v₁ (method_of v₁ (c.frames - 1))) [] ≡ ok ss)
        passed = go (take_in v₁ (view_of K) (ensures_at v₁ (method_of v₁ (c.frames - 1))) []) refl
          where
            go :
                (t : Try Answers.Stop (List ℕ)) → take_in v₁ (view_of K) (ensures_at v₁ (method_of v₁ (c.frames - 1))) [] ≡ t →
                (ss : List ℕ) × (take_in v₁ (view_of K) (ensures_at v₁ (method_of v₁ (c.frames - 1))) [] ≡ ok ss)
            go (ok ss) e = (ss, e)
            go (no a) e =
                let (f, q) = fault-of a in
                not_stopped goes.1
                (followed g (view_of K) refl s n s-is n-is ln refl (Returns.end-stops ready many f (e ∙ ap no q)) m S.represents (Err f) refl).0

        -- with the result put in the lean machine's stores too
        back-with : Follows (put_word (put_word w from n) to n) c (Ok (Some (back c (r + 1)))) m (step whole_heap (program_in w) m)
        back-with =
            let (ss, e) = passed in
            let h : ℕ = saved_holder v₁ (c.frames - 2) in
            let I = ready.represents in
            let lh : h < 4294967296 = omega (arith, saved-below I many, I.last, I.given, I.most, R.more) in
            let fit : SharesFit (spread v₁ c.objects ss) = Returns.end_fits ready many ss e in
            let l1 : length v₁ ≡ 65536 = put-word-length v from n ∙ ghost-size S in
            let rows : saved_row v₁ (c.frames - 2) ≡ saved_row v (c.frames - 2) =
            (same-frame from (from + 4) v v₁ (c.frames - 2) only-result (inl (omega (arith, many, (frames-fit S).0)))).row in
            let r-is : r ≡ saved_row v₁ (c.frames - 2) = er ∙ (bare-row S.bare (c.frames - 2) ∙ sym rows) in
            let x-same : x_at w r ≡ x_at v₁ r =
            x-is many r er S ∙ sym (only-result.bytes _ (inl (omega (arith, saved-fits many r er S)))) in
            let D =
            Returns.leave-does ready many ss h r x n e refl lh r-is (ex ∙ x-same)
            (sym (this_variable v (frame_at (c.frames - 1)) result_variable n (omega (arith, ghost-size S, (frames-fit S).1)) ln)) ln refl refl in
            on-as S h S.holders (omega (arith, S.base, many, (frames-fit S).0)) (does-as here (return-goes g (view_of K) refl s n s-is n-is ln refl D _ refl))
            (word-both to n (omega (arith, (only-marked v₁ (spread v₁ c.objects ss) S.holder h fit).size, l1, first, (frames-fit S).1))
            (ghost-marked (spread v₁ c.objects ss) S.holder h fit
            (word-both from n (omega (arith, ghost-size S, (frames-fit S).1)) S.bare)))

        pub back_on : Follows (put_word w to n) c (Ok (Some (back c (r + 1)))) m (step whole_heap (program_in w) m)
        back_on =
            let G = back-with in
            let u : List ℕ = put_word w to n in
            let e : put_word (put_word w from n) to n ≡ put_word u from n = words-apart w from n to n first in
            let s1 : Only from (from + 4) u (put_word u from n) = only-word from (from + 4) u from n (omega arith) (omega arith) in
            let s2 : Only from (from + 4) (put_word u from n) u = record { size = sym s1.size; bytes = λ j o. sym (s1.bytes j o) } in
            record {
              next = G.next;
              is_next = G.is_next;
              stands =
                  above-free from 4 (omega (arith, (frames-fit S).0)) (omega (arith, (frames-fit S).1)) s2
                  (subst (λ (a : List ℕ). Stands a (back c (r + 1)) G.next) e G.stands);
              counted = G.counted;
            }

  -- THE CODE
  pub back_done : c.frames ≡ 1 → Does w c w (Ok None)
  back_done e = record { tables = same_refl w; follows = λ m S U. (is_done S e, S) }

  pub back-does :
      (b s n r x : ℕ) {w' : List ℕ} {d : Counters} → (c.frames ≡ 1 → ⊥) → b ≡ frame_at (c.frames - 1) → s ≡ source_of w c.row →
      n ≡ variable_at w b s → n < 4294967296 → r ≡ saved_row w (c.frames - 2) → x ≡ x_at w r → w' ≡ put_word w (b - 72 + x * 4) n →
      d ≡ back c (r + 1) → Does w c w' (Ok (Some d))
  back-does b s n r x many eb es en ln er ex e q =
      let lx : x < frame_variables = target_small many r er ex in
      let at : b - 72 + x * 4 ≡ frame_at (c.frames - 2) + x * 4 = omega (arith, eb, many, (has-frames R).0) in
      does-on (e ∙ ap (λ (i : ℕ). put_word w i n) at) q
      (only-tables (only-word frames_at (frames_at + 8192) w (frame_at (c.frames - 2) + x * 4) n (omega arith) (omega (arith, lx, (has-frames R).1)))
      (omega arith))
      (λ m S U. back_on S U many s n r x es (en ∙ ap (λ (i : ℕ). variable_at w i s) eb) ln er ex)
