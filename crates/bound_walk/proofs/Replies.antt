-- What the walk over all methods says of the definition: a line is refused, or main's bound and frames.
use mathlib.Core.Path.{◌≡◌, refl, sym, subst}
use mathlib.Core.Bool.{true, false}
use mathlib.Core.List.{List}
use mathlib.Core.Logic.{⊎_elim}
use mathlib.Core.Option.{Option, none, some}
use Prim.Native.Nat.{ℕ, suc, ◌+◌, ◌≤◌, ◌<◌}
use native.Mathlib.Omega.{arith}
use Rattle.std.specs.Prelude.{Ok, Err}
use lib.Dec.{leb, ltb, leb→le, le→leb}
use lib.ListN.{get_or}
use Rattle.rules.specs.Limits.{most_bound, most_methods}
use Rattle.rules.specs.Syntax.{Row, Program}
use Rattle.rules.specs.Bounds.{Block, block, main_bound, main_frames, first_repeating}
use Rattle.rules.proofs.Lists.{T_true, F-false}
use Rattle.tables.specs.Decode.{method_count, main_first, program_in}
use Rattle.tables.specs.Tables.{Tables}
use Rattle.tables.proofs.Runs.{less-or-not}
use Rattle.bound_laws.specs.Routes.{block_at, Reaches, directly, through, Loopless}
use Rattle.bound_laws.proofs.Routes.{calls-exist, block_at-past}
use Rattle.bound_laws.proofs.Blocks.{frames-most}
use Rattle.bound_laws.proofs.Repeating.{main-loopless, no_line, none-loopless}
use Rattle.bound_rows.specs.Lines.{blocks_in}
use Rattle.bound_rows.proofs.Lines.{callees-there, blocks-count}
use Rattle.bound_walk.specs.declared.Visit.{Visit}
use Rattle.bound_walk.specs.declared.Visit.TheVariants.{NotVisited, OnRoute, Done}
use Rattle.bound_walk.specs.declared.Reckoned.{Reckoned}
use Rattle.bound_walk.specs.declared.Halt.TheVariants as Halts
use Rattle.bound_walk.specs.declared.Scanned.{Scanned}
use Rattle.bound_walk.specs.declared.Refusal.TheVariants.{Unbounded, Passed}
use Rattle.bound_walk.specs.Counting.{cap, fresh}
use Rattle.bound_walk.specs.Walk.{Settled, Right, Ended, Waits, NotDone, Stops, Scans, is_new, NoBound, AllReckoned, reckoned_by, reckoned}
use Rattle.bound_walk.proofs.Counted.{settled-itself, settled-loopless, whole_part}

pub no-bound-answer : (w : List ℕ) → NoBound w → Err Unbounded ≡ reckoned (program_in w)
unfolding reckoned reckoned_by
no-bound-answer w n = go (first_repeating (program_in w)) refl
  where
    go : (o : Option Row) → first_repeating (program_in w) ≡ o → Err Unbounded ≡ reckoned_by (program_in w) o
    go none e = absurd (n e)
    go (some r) e = refl

-- every method is reckoned
module _ (w : List ℕ) (tables : Tables w) (marks : List Reckoned) (R : AllReckoned w marks) where
  abbrev bs : List Block
  bs = blocks_in w

  abbrev P : Program
  P = program_in w

  settled-by : (n : ℕ) (v : Visit) (f : ℕ) → is_new v ≡ 0 → (v ≡ OnRoute → ⊥) → Right bs n v f → Settled bs n
  settled-by n NotVisited f z i r = absurd (omega (arith, z))
  settled-by n OnRoute f z i r = absurd (i refl)
  settled-by n (Done b) f z i r = r.0

  is-settled : (n : ℕ) → n < method_count w → Settled bs n
  is-settled n l = settled-by n (get_or marks n fresh).visit (get_or marks n fresh).frames (R.1 n l) (R.0.idle n) (R.0.sound n)

  acyclic : (n : ℕ) → Reaches bs n n → ⊥
  acyclic n r = settled-itself bs (is-settled n (starts r)) r
    where
      starts : {m : ℕ} → Reaches bs n m → n < method_count w
      starts (directly {b = b} i) = omega (arith, calls-exist bs n b i, blocks-count w)
      starts (through {c = c} i r) = omega (arith, calls-exist bs n c i, blocks-count w)

  all-loopless : (n : ℕ) → Loopless (block_at bs n)
  all-loopless n =
      ⊎_elim (λ l. settled-loopless bs n (is-settled n l))
      (λ l. subst Loopless (sym (block_at-past bs n (omega (arith, l, blocks-count w)))) none-loopless)
      (less-or-not n (method_count w) (ltb n (method_count w)) refl)

  -- main's rows
  abbrev body : Block
  body = block P (main_first w)

  module _ (main : ℕ) (at : main ≡ main_first w) (s : Scanned) (S : Scans w marks (record { method = 0; row = main; sum = 0; frames = 0 }) s) where
    stops : Stops w marks body s.block s.found
    stops = S.stops body (rw at (whole_part bs body, tables.main_fits.0))

    not-waiting : (v : Visit) → is_new v ≡ 0 → (v ≡ OnRoute → ⊥) → NotDone v → ⊥
    not-waiting NotVisited z i d = omega (arith, z)
    not-waiting OnRoute z i d = i refl
    not-waiting (Done b) z i d = d

    pub main-waits : (c : ℕ) → s.found ≡ Halts.Wait c → Err Unbounded ≡ reckoned P
    main-waits c f =
        let H : Waits w marks body s.block c = subst (λ f. Stops w marks body s.block f) f stops in
        absurd
        (not-waiting (get_or marks c fresh).visit (R.1 c (callees-there w tables (main_first w) c H.called)) (R.0.idle c) H.not_done)

    pub main-loops : s.found ≡ Halts.Loop → Err Unbounded ≡ reckoned P
    unfolding program_in
    main-loops f =
        let (r, i, t) = subst (λ f. Stops w marks body s.block f) f stops in
        no-bound-answer w (λ e. main-loopless P e r i t)

    module _ (f : s.found ≡ Halts.End) where
      ended : Ended bs body s.block
      ended = subst (λ f. Stops w marks body s.block f) f stops

      none-repeats : first_repeating P ≡ none
      unfolding program_in
      none-repeats = no_line P acyclic all-loopless ended.loopless

      main-sum : s.block.sum ≡ cap (main_bound P)
      unfolding main_bound program_in
      main-sum = ended.sum

      main-frames : s.block.frames + 1 ≡ main_frames P
      unfolding main_frames program_in
      main-frames = ended.frames

      pub frames_small : s.block.frames ≤ suc most_methods
      frames_small = omega (arith, ended.frames, frames-most bs body, blocks-count w, tables.methods)

      pub bounded-answer :
          s.block.sum ≤ most_bound → (k : ℕ) → k ≡ s.block.frames + 1 → Ok (record { steps = s.block.sum; frames = k }) ≡ reckoned P
      unfolding reckoned reckoned_by
      bounded-answer l k q =
          let is : s.block.sum ≡ main_bound P = omega (arith, main-sum, l) in
          let fits : leb (main_bound P) most_bound ≡ true = T_true (leb (main_bound P) most_bound) (le→leb (main_bound P) most_bound (omega (arith, is, l))) in
          rw (none-repeats, fits, is, q, main-frames) refl

      pub passed-answer : most_bound < s.block.sum → Err Passed ≡ reckoned P
      unfolding reckoned reckoned_by
      passed-answer l =
          let fits : leb (main_bound P) most_bound ≡ false =
          F-false (leb (main_bound P) most_bound) (λ t. omega (arith, leb→le (main_bound P) most_bound t, main-sum, l)) in
          rw (none-repeats, fits) refl
