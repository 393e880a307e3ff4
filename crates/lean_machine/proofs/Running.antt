-- A run: the first state, each step, and the end.
use mathlib.Core.Path.{◌≡◌, refl, sym, ap, ◌∙◌, subst}
use mathlib.Core.List.{List, [], ◌∷◌}
use mathlib.Core.Logic.{inl, inr}
use Prim.Native.Nat.{ℕ, zero, suc, ◌+◌, ◌*◌, ◌-◌, ◌≤◌, ◌<◌}
use native.Mathlib.Numerals.{add-one}
use native.Mathlib.Omega.{arith}
use lib.ListN.{length}
use Rattle.rules.specs.Limits.{most_statements, values_shown}
use Rattle.rules.specs.Answers as Answers
use Rattle.rules.specs.Syntax.{Program}
use Rattle.rules.specs.Lean as Lean
use Rattle.rules.specs.Machine.{Config, Outcome, Step, on, stop, done, step, run, go_on, ends, start, run_program}
use Rattle.rules.specs.Calls.{whole_heap}
use Rattle.soundness.specs.Endings.{EndsUnstuck}
use Rattle.soundness.proofs.NeverStuck.{accepted-ends-unstuck}
use Rattle.soundness.proofs.LeanRuns.{accepted-lean}
use Rattle.tables.specs.Layout.{frame_variables, frames_at}
use Rattle.tables.specs.Decode.{word_at, line_at, main_first, program_in}
use Rattle.tables.specs.Tables.{Tables}
use Rattle.tables.specs.Stores.{SameTables, Kept}
use Rattle.tables.proofs.BytesRead.{same-trans, same_refl, word_kept, half-kept}
use Rattle.tables.proofs.Decoding.{program-same}
use Rattle.run_heap.specs.Views.{fill, frame_holder}
use Rattle.machine.specs.Runs.{words, main_values}
use Rattle.machine.proofs.Running.{begins, begin-tables, ends-are}
use Rattle.lean_heap.specs.declared.Counters.{Counters}
use Rattle.lean_heap.specs.declared.Stop.{Stop}
use Rattle.std.specs.Prelude.{Some, None, Ok, Err}
use Rattle.lean_heap.specs.Ghosts.{Stands, Unstuck, Goes, Does, CanStep, stop_of}
use Rattle.lean_heap.proofs.Following.{ghost-tables, tables, row_small}
use Rattle.run_steps.specs.declared.ends.Ending.{Ending}
use Rattle.lean_machine.specs.Runs.{Ran, Accepted, fresh, ending_in, RanAs}

-- MAIN'S VALUES, which the lean stores have as the ghost has them
words_same : (v w : List ℕ) (a b i n : ℕ) → Kept a b v w → a ≤ i → i + n * 4 ≤ b → words w i n ≡ words v i n
unfolding words
words_same v w a b i zero k l h = refl
words_same v w a b i (suc n) k l h =
    rw (word_kept a b v w k i l (omega arith)) (ap (λ (r : List ℕ). word_at v i ∷ r) (words_same v w a b (i + 4) n k (omega arith) (omega arith)))

ends-in :
    {w : List ℕ} {c : Counters} {m : Config} (S : Stands w c m) (e : Answers.Ending) (n : ℕ) →
    ends (program_in S.ghost) e n m ≡ record { ending = e; line = line_at w c.row; steps = n; values = main_values w }
ends-in {w} {c} {m} S e n =
    let k : Kept frames_at (frames_at + frame_holder) S.ghost w =
    λ i l h. S.bare.bytes i (inr (inr (0, i - frames_at, omega arith, inl (omega arith)))) in
    let l : line_at w c.row ≡ line_at S.ghost c.row =
    half-kept 0 36880 S.ghost w (ghost-tables S).bytes _ (omega arith) (omega (arith, row_small S)) in
    ends-are S.represents e n
    ∙ rw (← l, ← words_same S.ghost w frames_at (frames_at + frame_holder) (frames_at + 8) values_shown k (omega arith) (omega arith))
    refl

-- THE LOOP
pub record Going (w₀ w : List ℕ) (k : ℕ) (c : Counters) : Type 0 where
  pub tables : Tables w₀
  pub accepted : Accepted (program_in w₀)
  pub same : SameTables w₀ w
  pub state : Config
  pub stands : Stands w c state
  pub within : c.steps ≤ k
  pub is-run : run whole_heap (program_in w₀) (k - c.steps) c.steps state ≡ run_program whole_heap (program_in w₀) k

pub going :
    (w w' : List ℕ) (k : ℕ) (c : Counters) → Tables w → Accepted (program_in w) → c ≡ fresh (main_first w) →
    w' ≡ fill w frames_at frame_variables 0 → Going w' w' k c
unfolding run_program
going w w' k c t a q p =
    subst (λ (u : List ℕ). Going u u k c) (sym p)
    (subst (λ (d : Counters). Going (fill w frames_at frame_variables 0) (fill w frames_at frame_variables 0) k d) (sym q) first)
  where
    b : program_in (fill w frames_at frame_variables 0) ≡ program_in w
    b = program-same w (fill w frames_at frame_variables 0) (begin-tables w t) t

    first : Going (fill w frames_at frame_variables 0) (fill w frames_at frame_variables 0) k (fresh (main_first w))
    first =
        record {
          tables = (begins w t).tables;
          accepted = subst Accepted (sym b) a;
          same = same_refl (fill w frames_at frame_variables 0);
          state = start (program_in w);
          stands =
              record {
                ghost = fill w frames_at frame_variables 0;
                holder = 1;
                holders = 1;
                represents = begins w t;
                bare = record { size = refl; bytes = λ j s. refl };
                base = refl;
              };
          within = omega arith;
          is-run = let e : k - 0 ≡ k = omega arith in rw (e, b) refl;
        }

-- what holds from the first state on holds from the tables on
pub from-tables :
    {w w₀ w' : List ℕ} {k : ℕ} {r : Ran} → Tables w → w₀ ≡ fill w frames_at frame_variables 0 → RanAs w₀ k w' r → RanAs w k w' r
from-tables {w} {w₀} {w'} {k} {r} t p A =
    let B : RanAs (fill w frames_at frame_variables 0) k w' r = subst (λ (u : List ℕ). RanAs u k w' r) p A in
    let b : program_in (fill w frames_at frame_variables 0) ≡ program_in w =
    program-same w (fill w frames_at frame_variables 0) (begin-tables w t) t in
    record {
      tables = same-trans (begin-tables w t) B.tables;
      outcome = ap (λ (P : Program). Lean.outcome_of (Lean.run_program whole_heap P k)) (sym b) ∙ B.outcome;
    }

-- a run that is not stuck takes no stuck step
first-unstuck :
    (P : Program) (s : Step) (n : ℕ) (m : Config) (f : Config → Outcome) → EndsUnstuck (go_on P s n m f).ending → Unstuck s
unfolding go_on ends
first-unstuck P (on m') n m f u = tt
first-unstuck P (stop s) n m f u = u
first-unstuck P done n m f u = tt

module _ {w₀ w : List ℕ} {k : ℕ} {c : Counters} (G : Going w₀ w k c) where
  program-is : program_in w ≡ program_in w₀
  program-is = program-same w₀ w G.same G.tables

  -- one step of the run
  one :
      c.steps < k →
      run whole_heap (program_in w₀) (k - c.steps) c.steps G.state
      ≡ go_on (program_in w₀) (step whole_heap (program_in w) G.state) c.steps G.state
      (λ m'. run whole_heap (program_in w₀) (k - (c.steps + 1)) (suc c.steps) m')
  unfolding run
  one l = let e : k - c.steps ≡ suc (k - (c.steps + 1)) = omega arith in rw (e, program-is)

  unstuck : c.steps < k → Unstuck (step whole_heap (program_in w) G.state)
  unstuck l =
      first-unstuck (program_in w₀) (step whole_heap (program_in w) G.state) c.steps G.state _
      (subst (λ (o : Outcome). EndsUnstuck o.ending) (sym G.is-run ∙ one l)
      (accepted-ends-unstuck (program_in w₀) G.accepted.0 G.accepted.1 whole_heap k))

  pub ready : c.steps < k → k < 4294967296 → CanStep w c
  ready l h = record { state = G.state; stands = G.stands; unstuck = unstuck l; more = omega arith }

  pub at-row : (length w ≡ 65536) × (c.row < most_statements)
  at-row = ((tables G.stands).size, row_small G.stands)

  pub goes_on : {w' : List ℕ} {d : Counters} → c.steps < k → Does w c w' (Ok (Some d)) → Going w₀ w' k d
  unfolding go_on
  goes_on {w'} {d} l D =
      let N : Goes w' c d (step whole_heap (program_in w) G.state) = D.follows G.state G.stands (unstuck l) in
      record {
        tables = G.tables;
        accepted = G.accepted;
        same = same-trans G.same D.tables;
        state = N.next;
        stands = N.stands;
        within = omega (arith, N.counted);
        is-run =
            rw N.counted
            (let e : c.steps + 1 ≡ suc c.steps = add-one c.steps in
            ap (λ (i : ℕ). run whole_heap (program_in w₀) (k - (c.steps + 1)) i N.next) e
            ∙ (sym (ap (λ (s : Step). go_on (program_in w₀) s c.steps G.state (λ m'. run whole_heap (program_in w₀) (k - (c.steps + 1)) (suc c.steps) m')) N.is_next)
            ∙ (sym (one l) ∙ G.is-run)));
      }

  pub goes-less : {w' : List ℕ} {d : Counters} → c.steps < k → Does w c w' (Ok (Some d)) → k - d.steps < k - c.steps
  goes-less {w'} {d} l D =
      let N : Goes w' c d (step whole_heap (program_in w) G.state) = D.follows G.state G.stands (unstuck l) in
      omega (arith, N.counted)

  -- THE END
  ended-as :
      {w' : List ℕ} (e : Ending Stop) (n : ℕ) (r : Ran) → SameTables w w' → Stands w' c G.state →
      run whole_heap (program_in w₀) (k - c.steps) c.steps G.state ≡ ends (program_in w₀) (Lean.ending_of (ending_in e)) n G.state →
      r.ending ≡ e → r.line ≡ line_at w' c.row → r.steps ≡ n → RanAs w₀ k w' r
  unfolding Lean.outcome_of
  ended-as {w'} e n r t S q re rl rs =
      let P : program_in w₀ ≡ program_in S.ghost =
      sym (program-same w₀ w' (same-trans G.same t) G.tables) ∙ program-same S.ghost w' (ghost-tables S) S.represents.tables in
      record {
        tables = same-trans G.same t;
        outcome =
            accepted-lean (program_in w₀) G.accepted.0 G.accepted.1 whole_heap k
            ∙ (sym G.is-run ∙ (q ∙ (ap (λ (P : Program). ends P (Lean.ending_of (ending_in e)) n G.state) P ∙ (ends-in S (Lean.ending_of (ending_in e)) n
            ∙ λ i. record { ending = Lean.ending_of (ending_in (sym re i)); line = sym rl i; steps = sym rs i; values = main_values w' }))));
      }

  pub ends-taken :
      (r : Ran) → k ≤ c.steps → r.ending ≡ Ending.StepsTaken → r.line ≡ line_at w c.row → r.steps ≡ c.steps → RanAs w₀ k w r
  unfolding run ending_in Lean.ending_of
  ends-taken r l =
      ended-as Ending.StepsTaken c.steps r (same_refl w) G.stands (let e : k - c.steps ≡ 0 = omega arith in rw e)

  at-stop :
      c.steps < k → (s : Step) → step whole_heap (program_in w) G.state ≡ s →
      run whole_heap (program_in w₀) (k - c.steps) c.steps G.state
      ≡ go_on (program_in w₀) s c.steps G.state (λ m'. run whole_heap (program_in w₀) (k - (c.steps + 1)) (suc c.steps) m')
  at-stop l s e =
      one l
      ∙ ap (λ (t : Step). go_on (program_in w₀) t c.steps G.state (λ m'. run whole_heap (program_in w₀) (k - (c.steps + 1)) (suc c.steps) m')) e

  pub ends-stopped :
      {w' : List ℕ} (s : Stop) (r : Ran) → c.steps < k → Does w c w' (Err s) → r.ending ≡ Ending.Stopped s →
      r.line ≡ line_at w' c.row → r.steps ≡ c.steps → RanAs w₀ k w' r
  unfolding go_on ending_in Lean.ending_of stop_of
  ends-stopped {w'} s r l D =
      let (e, S) = D.follows G.state G.stands (unstuck l) in
      ended-as (Ending.Stopped s) c.steps r D.tables S (at-stop l (stop (stop_of s)) e)

  pub ends-finished :
      {w' : List ℕ} (r : Ran) → c.steps < k → Does w c w' (Ok None) → r.ending ≡ Ending.Finished → r.line ≡ line_at w' c.row →
      r.steps ≡ c.steps + 1 → RanAs w₀ k w' r
  unfolding go_on ending_in Lean.ending_of
  ends-finished {w'} r l D =
      let (e, S) = D.follows G.state G.stands (unstuck l) in
      ended-as Ending.Finished (c.steps + 1) r D.tables S (rw add-one (at-stop l done e))
