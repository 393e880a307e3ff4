-- A run: the first state, each step, and the end.
use Rattle.run_heap.specs.Views.{saved_holder, saved_row}
use mathlib.Core.Path.{◌≡◌, refl, sym, ap, ◌∙◌, subst}
use mathlib.Core.List.{List, [], ◌∷◌}
use mathlib.Core.Logic.{inl}
use mathlib.Core.Option.{some}
use Prim.Native.Nat.{ℕ, zero, suc, ◌+◌, ◌*◌, ◌-◌, ◌≤◌, ◌<◌}
use native.Mathlib.Numerals.{add-one}
use native.Mathlib.Omega.{arith}
use lib.ListN.{length, take, drop, get_or, get_or-replicate}
use lib.Seq.{drop-cons}
use Rattle.rules.specs.Limits.{most_statements, values_shown}
use Rattle.rules.specs.Answers as Answers
use Rattle.rules.specs.Syntax.{Row, Program}
use Rattle.rules.specs.Machine.{Frame, Location, Config, Step, Room, halves, fields_in, object, value_of, entry_values, main_frame, ends, go_on, step, run, start, run_program}
use Rattle.rules.specs.Counters.{fresh_machine}
use Rattle.rules.specs.declared.Machine.{Machine}
use Rattle.tables.specs.Layout.{frame_variables, frames_at}
use Rattle.tables.specs.Decode.{word_at, row_at, line_at, main_first, program_in}
use Rattle.tables.specs.Tables.{Tables}
use Rattle.tables.specs.Stores.{SameTables}
use Rattle.tables.proofs.BytesRead.{same-trans, same_refl}
use Rattle.tables.proofs.Decoding.{tables-same, rows-count-same, program-same}
use Rattle.run_heap.specs.declared.Fault.{Fault}
use Rattle.std.specs.Prelude.{Some, None, Ok, Err}
use Rattle.run_steps.specs.declared.ends.Ending.{Ending}
use Rattle.run_heap.specs.Views.{frame_at, variable_at, cell_of, halves_in, halves_of, fill, frame_holder}
use Rattle.run_steps.specs.States.{FrameIs, CallersAre, Represents, Goes, Does, CanStep}
use Rattle.machine.specs.Runs.{Ran, ending_of, words, main_values, RanAs}
use Rattle.run_heap.proofs.Reading.{cell-null, cell-beyond, cell-placed}
use Rattle.run_footprint.proofs.Regions.{only-fill, only-tables, fill-word}
use Rattle.run_returns.proofs.Returning.{row-of}

-- THE FIRST STATE
no_cells : (w : List ℕ) (o f k : ℕ) → cell_of w 0 o f ≡ some k → ⊥
no_cells w o f k e = omega (arith, (cell-placed w 0 o f k e).exists)

nobody : (w : List ℕ) (number : ℕ) (p : Location) → halves_of w 0 number p ≡ 0
unfolding halves_of halves_in
nobody w number p = go p.object
  where
    go : (o : ℕ) → halves_in w number (cell_of w 0 o p.field) ≡ 0
    go zero = rw (cell-null w 0 p.field)
    go (suc i) = rw (cell-beyond w 0 i p.field (omega arith))

zero-values : (x : ℕ) → x < frame_variables → get_or (entry_values 0 0) x 0 ≡ 0
unfolding entry_values
zero-values zero l = refl
zero-values (suc zero) l = refl
zero-values (suc (suc x)) l = get_or-replicate 13 x 0 0 (omega arith)

entry-size : length (entry_values 0 0) ≡ frame_variables
unfolding entry_values
entry-size = refl

module _ (w : List ℕ) (tables : Tables w) where
  pub begin-tables : SameTables w (fill w frames_at frame_variables 0)
  begin-tables = only-tables (only-fill frames_at (frames_at + frame_holder) w frames_at frame_variables 0 (omega arith) (omega arith)) (omega arith)

  pub begins : Represents (fill w frames_at frame_variables 0) (fresh_machine (main_first w)) (start (program_in w))
  unfolding start program_in CallersAre fields_in halves value_of variable_at
  begins =
      let w' : List ℕ = fill w frames_at frame_variables 0 in
      record {
        tables = tables-same w w' begin-tables tables;
        heap =
            record {
              count = refl;
              fields_count = refl;
              most_objects = omega arith;
              most_fields = omega arith;
              fit = λ i l. absurd (omega arith);
              apart = λ i j l h. absurd (omega arith);
              value = λ o f k e. absurd (no_cells w' o f k e);
              has = λ o f k e. absurd (no_cells w' o f k e);
              marks = λ k n l h. absurd (omega arith);
            };
        frames = refl;
        most = omega arith;
        frame =
            record {
              size = entry-size;
              values = λ x l. zero-values x l ∙ sym (fill-word w frames_at frame_variables 0 x (omega (arith, tables.size)) (omega arith) l);
              row_is = refl;
              row_fits = omega (arith, tables.main_fits.0, rows-count-same w w' begin-tables);
              held = λ p. sym (nobody w' 1 p);
              numbered = omega arith;
            };
        ensures = inl refl;
        callers = tt;
        last = omega arith;
        given = omega arith;
      }

-- MAIN'S VALUES
words_are :
    (w l : List ℕ) (i a n : ℕ) → i + n ≤ length l → ((x : ℕ) → x < n → get_or l (i + x) 0 ≡ word_at w (a + x * 4)) →
    take n (drop i l) ≡ words w a n
unfolding words
words_are w l i a zero h v = refl
words_are w l i a (suc n) h v =
    let first : get_or l i 0 ≡ word_at w a =
    let e : i + 0 ≡ i = omega arith in
    let f : a + 0 * 4 ≡ a = omega arith in
    rw (e, f) at (v 0 (omega arith)) in
    rw (drop-cons l i 0 (omega arith))
    (ap (λ (y : ℕ). y ∷ take n (drop (suc i) l)) first
    ∙ ap (λ (r : List ℕ). word_at w a ∷ r)
    (words_are w l (suc i) (a + 4) n (omega arith)
    (λ x k.
    let e : suc i + x ≡ i + suc x = omega arith in
    let f : a + 4 + x * 4 ≡ a + suc x * 4 = omega arith in
    rw (e, f) (v (suc x) (omega arith)))))

frame-values :
    (w : List ℕ) (n number row : ℕ) (F : Frame) → FrameIs w n (frame_at 0) number row F → take values_shown (drop 2 F.values) ≡ main_values w
unfolding value_of variable_at
frame-values w n number row F I =
    words_are w F.values 2 (frames_at + 8) values_shown (omega (arith, I.size))
    (λ x l.
    let f : frames_at + (2 + x) * 4 ≡ frames_at + 8 + x * 4 = omega arith in
    I.values (2 + x) (omega arith) ∙ rw f)

main-values :
    (w : List ℕ) (n bound number row : ℕ) (F : Frame) (Fs : List Frame) → FrameIs w n (frame_at (length Fs)) number row F → CallersAre w n bound Fs →
    take values_shown (drop 2 (main_frame F Fs).values) ≡ main_values w
unfolding main_frame CallersAre
main-values w n bound number row F [] I C = frame-values w n number row F I
main-values w n bound number row F (G ∷ Fs) I C =
    main-values w n (saved_holder w (length Fs)) (saved_holder w (length Fs)) (saved_row w (length Fs)) G Fs C.0.frame C.1

-- THE END
pub ends-are :
    {w : List ℕ} {c : Machine} {m : Config} (R : Represents w c m) (e : Answers.Ending) (n : ℕ) →
    ends (program_in w) e n m ≡ record { ending = e; line = line_at w c.row; steps = n; values = main_values w }
unfolding ends row_at
ends-are {w} {c} {m} R e n =
    λ i.
    record {
      ending = e;
      line = ap (λ (r : Row). r.line) (row-of R.frame) i;
      steps = n;
      values = main-values w c.objects c.holder c.holder c.row m.frame m.callers R.frame R.callers i;
    }

-- THE LOOP
pub record Going (room : Room) (w₀ w : List ℕ) (k : ℕ) (c : Machine) : Type 0 where
  pub tables : Tables w₀
  pub same : SameTables w₀ w
  pub state : Config
  pub represents : Represents w c state
  pub within : c.steps ≤ k
  pub is-run : run room (program_in w₀) (k - c.steps) c.steps state ≡ run_program room (program_in w₀) k

pub going : (room : Room) (w w' : List ℕ) (k : ℕ) (c : Machine) → Tables w → c ≡ fresh_machine (main_first w) → w' ≡ fill w frames_at frame_variables 0 → Going room w' w' k c
unfolding run_program
going room w w' k c t q p =
    subst (λ (u : List ℕ). Going room u u k c) (sym p)
    (subst (λ (d : Machine). Going room (fill w frames_at frame_variables 0) (fill w frames_at frame_variables 0) k d) (sym q)
    (record {
      tables = (begins w t).tables;
      same = same_refl (fill w frames_at frame_variables 0);
      state = start (program_in (fill w frames_at frame_variables 0));
      represents =
          subst (λ (P : Program). Represents (fill w frames_at frame_variables 0) (fresh_machine (main_first w)) (start P))
          (sym (program-same w (fill w frames_at frame_variables 0) (begin-tables w t) t)) (begins w t);
      within = omega arith;
      is-run = let e : k - 0 ≡ k = omega arith in rw e;
    }))

-- what holds from the first state on holds from the tables on
pub from-tables :
    {room : Room} {w w₀ w' : List ℕ} {k : ℕ} {r : Ran} → Tables w → w₀ ≡ fill w frames_at frame_variables 0 → RanAs room w₀ k w' r → RanAs room w k w' r
from-tables {room} {w} {w₀} {w'} {k} {r} t p A =
    let B : RanAs room (fill w frames_at frame_variables 0) k w' r = subst (λ (u : List ℕ). RanAs room u k w' r) p A in
    record {
      tables = same-trans (begin-tables w t) B.tables;
      outcome =
          ap (λ (P : Program). run_program room P k) (sym (program-same w (fill w frames_at frame_variables 0) (begin-tables w t) t)) ∙ B.outcome;
    }

module _ {room : Room} {w₀ w : List ℕ} {k : ℕ} {c : Machine} (G : Going room w₀ w k c) where
  program-is : program_in w ≡ program_in w₀
  program-is = program-same w₀ w G.same G.tables

  pub ready : c.steps < k → k < 4294967296 → CanStep w c
  ready l h = record { state = G.state; represents = G.represents; more = omega arith }

  pub at-row : (length w ≡ 65536) × (c.row < most_statements)
  at-row = (G.represents.tables.size, omega (arith, G.represents.frame.row_fits, G.represents.tables.rows))

  -- one step of the run
  one : (l : c.steps < k) → run room (program_in w₀) (k - c.steps) c.steps G.state
      ≡ go_on (program_in w₀) (step room (program_in w) G.state) c.steps G.state (λ m'. run room (program_in w₀) (k - (c.steps + 1)) (suc c.steps) m')
  unfolding run
  one l = let e : k - c.steps ≡ suc (k - (c.steps + 1)) = omega arith in rw (e, program-is)

  pub goes_on :
      {w' : List ℕ} {d : Machine} → c.steps < k → Does w c w' (Ok (Some d)) (step room (program_in w)) → Going room w₀ w' k d
  unfolding go_on
  goes_on {w'} {d} l D =
      let N : Goes w' c d (step room (program_in w) G.state) = D.follows G.state G.represents in
      record {
        tables = G.tables;
        same = same-trans G.same D.tables;
        state = N.next;
        represents = N.represents;
        within = omega (arith, N.counted);
        is-run =
            rw N.counted
            (let e : c.steps + 1 ≡ suc c.steps = add-one c.steps in
            ap (λ (i : ℕ). run room (program_in w₀) (k - (c.steps + 1)) i N.next) e
            ∙ (sym (ap (λ (s : Step). go_on (program_in w₀) s c.steps G.state (λ m'. run room (program_in w₀) (k - (c.steps + 1)) (suc c.steps) m')) N.is_next)
            ∙ (sym (one l) ∙ G.is-run)));
      }

  pub goes-less :
      {w' : List ℕ} {d : Machine} → c.steps < k → Does w c w' (Ok (Some d)) (step room (program_in w)) → k - d.steps < k - c.steps
  goes-less {w'} {d} l D =
      let N : Goes w' c d (step room (program_in w) G.state) = D.follows G.state G.represents in
      omega (arith, N.counted)

  ended-as :
      {w' : List ℕ} (e : Ending Fault) (n : ℕ) (r : Ran) → SameTables w w' → Represents w' c G.state →
      run room (program_in w₀) (k - c.steps) c.steps G.state ≡ ends (program_in w₀) (ending_of e) n G.state → r.ending ≡ e →
      r.line ≡ line_at w' c.row → r.steps ≡ n → RanAs room w₀ k w' r
  ended-as {w'} e n r t R q re rl rs =
      record {
        tables = same-trans G.same t;
        outcome =
            sym G.is-run ∙ (q ∙ (ap (λ (P : Program). ends P (ending_of e) n G.state) (sym (program-same w₀ w' (same-trans G.same t) G.tables)) ∙ (ends-are R (ending_of e) n
            ∙ λ i. record { ending = ending_of (sym re i); line = sym rl i; steps = sym rs i; values = main_values w' })));
      }

  pub ends-taken :
      (r : Ran) → k ≤ c.steps → r.ending ≡ Ending.StepsTaken → r.line ≡ line_at w c.row → r.steps ≡ c.steps → RanAs room w₀ k w r
  unfolding run ending_of
  ends-taken r l =
      ended-as Ending.StepsTaken c.steps r (record { size = refl; bytes = λ i a b. refl }) G.represents
      (let e : k - c.steps ≡ 0 = omega arith in rw e)

  pub ends-stopped :
      {w' : List ℕ} (f : Fault) (r : Ran) → c.steps < k → Does w c w' (Err f) (step room (program_in w)) →
      r.ending ≡ Ending.Stopped f → r.line ≡ line_at w' c.row → r.steps ≡ c.steps → RanAs room w₀ k w' r
  unfolding go_on ending_of
  ends-stopped {w'} f r l D =
      let (s, R) = D.follows G.state G.represents in
      ended-as (Ending.Stopped f) c.steps r D.tables R
      (one l ∙ ap (λ (t : Step). go_on (program_in w₀) t c.steps G.state (λ m'. run room (program_in w₀) (k - (c.steps + 1)) (suc c.steps) m')) s)

  pub ends-finished :
      {w' : List ℕ} (r : Ran) → c.steps < k → Does w c w' (Ok None) (step room (program_in w)) →
      r.ending ≡ Ending.Finished → r.line ≡ line_at w' c.row → r.steps ≡ c.steps + 1 → RanAs room w₀ k w' r
  unfolding go_on ending_of
  ends-finished {w'} r l D =
      let (s, R) = D.follows G.state G.represents in
      ended-as Ending.Finished (c.steps + 1) r D.tables R
      (rw add-one
      (one l ∙ ap (λ (t : Step). go_on (program_in w₀) t c.steps G.state (λ m'. run room (program_in w₀) (k - (c.steps + 1)) (suc c.steps) m')) s))
