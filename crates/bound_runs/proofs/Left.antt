-- What is left of a run falls with each step, and the frames that it may still open fit the longest route of calls.
use mathlib.Core.Path.{◌≡◌, sym, ap, ◌∙◌, subst}
use mathlib.Core.List.{List, [], ◌∷◌}
use mathlib.Core.Option.{none}
use Prim.Native.Nat.{ℕ, suc, ◌+◌, ◌≤◌, zero-le}
use native.Mathlib.Omega.{arith}
use lib.ListN.{length}
use Rattle.bound_laws.specs.Routes.{Loopless}
use Rattle.rules.specs.Base.{Member, further}
use Rattle.rules.specs.Limits.{most_frames}
use Rattle.rules.specs.Answers.{Ending, finished, steps_taken, stopped, frames_full}
use Rattle.rules.specs.Syntax.{Program, row_numbered, method_numbered}
use Rattle.rules.specs.Machine.{Config, Frame, Room, statement_of, start}
use Rattle.rules.specs.Runs.{depth, last_step, Run, EndedBy}
use Rattle.rules.specs.Bounds.{block, blocks, block_bound, method_bound, block_frames, method_frames, main_bound, main_frames, first_repeating}
use Rattle.rules.proofs.States.{every-later}
use Rattle.bound_laws.proofs.Routes.{acyclic-clear}
use Rattle.bound_laws.proofs.Blocks.{block_goes, bound-positive, bound_some, bound-more, frames-some, frames-more, method-block, bound-law, frames-law}
use Rattle.bound_laws.proofs.Repeating.{methods-loopless, main-loopless, no-ring}
use Rattle.bound_runs.proofs.InBlock.{Later, same, pass}
use Rattle.bound_runs.proofs.Moves.{Nested, Move, goes_on, enters, returns, step-moves}
use Rattle.bound_runs.proofs.Full.{FullAt, step-full}

-- BLOCKS
module _ (P : Program) where
  bound-later : (v : ℕ → ℕ) {i j : ℕ} → Later P i j → block_bound v (block P j) ≤ block_bound v (block P i)
  bound-later v same = omega arith
  bound-later v (pass {i = i} n l) =
      rw (block_goes P i n) (omega (arith, bound-more (row_numbered P i) (block P (suc i)) v, bound-later v l))

  frames-later : (v : ℕ → ℕ) {i j : ℕ} → Later P i j → block_frames v (block P j) ≤ block_frames v (block P i)
  frames-later v same = omega arith
  frames-later v (pass {i = i} n l) =
      rw (block_goes P i n) (omega (arith, frames-more (row_numbered P i) (block P (suc i)) v, frames-later v l))

  loopless-later : {i j : ℕ} → Later P i j → Loopless (block P i) → Loopless (block P j)
  loopless-later same L = L
  loopless-later (pass {i = i} n l) L =
      loopless-later l (λ r m. L r (subst (Member r) (sym (block_goes P i n)) (further m)))

-- WHAT IS LEFT
module _ (P : Program) (none-repeats : first_repeating P ≡ none) (nested : (n : ℕ) → Nested P (method_numbered P n).first) where
  abbrev bound : ℕ → ℕ
  bound = method_bound (blocks P)

  abbrev frames : ℕ → ℕ
  frames = method_frames (blocks P)

  -- the rest of a block, from row i on
  abbrev Ahead : ℕ → Type 0
  Ahead i = Nested P i × Loopless (block P i)

  -- the callers go on after their calls
  abbrev AllAhead : List Frame → Type 0
  AllAhead [] = Unit {0}
  AllAhead (C ∷ Cs) = Ahead (suc C.row) × AllAhead Cs

  abbrev waiting : List Frame → ℕ
  waiting [] = 0
  waiting (C ∷ Cs) = block_bound bound (block P (suc C.row)) + waiting Cs

  abbrev left : Config → ℕ
  left m = block_bound bound (block P m.frame.row) + waiting m.callers

  -- the frames that are open, and those that a block may still open
  abbrev AllFit : List Frame → Type 0
  AllFit [] = Unit {0}
  AllFit (C ∷ Cs) = (length Cs + block_frames frames (block P (suc C.row)) ≤ main_frames P) × AllFit Cs

  -- after n steps
  record Within (n : ℕ) (m : Config) : Type 0 where
    ahead : Ahead m.frame.row
    below : AllAhead m.callers
    count : n + left m ≤ main_bound P
    fits : length m.callers + block_frames frames (block P m.frame.row) ≤ main_frames P
    below-fit : AllFit m.callers

  -- a method that is called
  method-ahead : (n : ℕ) → Ahead (method_numbered P n).first
  method-ahead n = (nested n, subst Loopless (method-block P n) (methods-loopless P none-repeats n))

  method-bound : (n : ℕ) → bound n ≡ block_bound bound (block P (method_numbered P n).first)
  method-bound n =
      bound-law (blocks P) n (acyclic-clear (blocks P) (no-ring P none-repeats) n) ∙ ap (block_bound bound) (method-block P n)

  method-frames : (n : ℕ) → frames n ≡ block_frames frames (block P (method_numbered P n).first)
  method-frames n =
      frames-law (blocks P) n (acyclic-clear (blocks P) (no-ring P none-repeats) n) ∙ ap (block_frames frames) (method-block P n)

  moved : (n : ℕ) (m m' : Config) → Move P m m' → Within n m → Within (suc n) m'
  unfolding statement_of
  moved n m m' (goes_on e l N c) W =
      let i : ℕ = m.frame.row in
      let is = block_goes P i e in
      let one : Later P i m'.frame.row = pass e l in
      record {
        ahead = (N, loopless-later P one W.ahead.1);
        below = rw c W.below;
        count =
            rw c
            (omega (arith, (rw is at W.count), bound-more (row_numbered P i) (block P (suc i)) bound, bound-later P bound l));
        fits = rw c (omega (arith, W.fits, frames-later P frames one));
        below-fit = rw c W.below-fit;
      }
  moved n m m' (enters k C e s f r N c) W =
      let i : ℕ = m.frame.row in
      let is = block_goes P i e in
      let one : Later P i (suc i) = pass e same in
      record {
        ahead = rw f (method-ahead k);
        below = rw (c, r) ((N, loopless-later P one W.ahead.1), W.below);
        count =
            rw (c, r, f)
            (omega (arith, (rw is at W.count), bound_some (row_numbered P i) (block P (suc i)) bound k s, method-bound k));
        fits =
            rw (c, f)
            (omega (arith, (rw is at W.fits), frames-some (row_numbered P i) (block P (suc i)) frames k s, method-frames k));
        below-fit = rw (c, r) (omega (arith, W.fits, frames-later P frames one), W.below-fit);
      }
  moved n m m' (returns C c r) W =
      let a : AllAhead (C ∷ m'.callers) = subst AllAhead c W.below in
      let f : AllFit (C ∷ m'.callers) = subst AllFit c W.below-fit in
      record {
        ahead = rw r a.0;
        below = a.1;
        count = rw r (omega (arith, (rw c at W.count), bound-positive bound P m.frame.row));
        fits = rw r f.0;
        below-fit = f.1;
      }

  -- A RUN
  module _ (main : Nested P P.main) (room : Room) {k : ℕ} (R : Run room P k) where
    starts : Within 0 (start P)
    unfolding start main_bound main_frames
    starts =
        record { ahead = (main, main-loopless P none-repeats); below = tt; count = omega arith; fits = omega arith; below-fit = tt }

    within : (i : ℕ) → i ≤ R.steps → Within i (R.state i)
    within i l =
        every-later (λ i. Within i (R.state i)) 0 R.steps (subst (Within 0) (sym R.first) starts)
        (λ n _ u W.
        moved n (R.state n) (R.state (suc n))
        (step-moves room P (R.state n) (R.state (suc n)) W.ahead.0 W.ahead.1 (R.next n u)) W)
        i zero-le l

    last : R.steps + left (R.state R.steps) ≤ main_bound P
    last = (within R.steps (omega arith)).count

    one_left : 1 ≤ left (R.state R.steps)
    one_left = omega (arith, bound-positive bound P (R.state R.steps).frame.row)

    pub count-within : R.steps + last_step R.ending ≤ main_bound P
    unfolding last_step
    count-within = go R.ending
      where
        go : (e : Ending) → R.steps + last_step e ≤ main_bound P
        go finished = omega (arith, last, one_left)
        go steps_taken = omega (arith, last)
        go (stopped s) = omega (arith, last)

    pub never-taken : main_bound P ≤ k → R.ending ≡ steps_taken → ⊥
    never-taken l e =
        let t : R.steps ≡ k = subst (EndedBy room P k R.steps (R.state R.steps)) e R.has_ended in
        omega (arith, last, one_left, t, l)

    pub frames-within : (i : ℕ) → i ≤ R.steps → suc (depth (R.state i)) ≤ main_frames P
    unfolding depth block_frames
    frames-within i l = omega (arith, (within i l).fits)

    -- a `call` that is next, with the frames full, would open one more than there are on any route
    pub never-full : main_frames P ≤ most_frames → R.ending ≡ stopped frames_full → ⊥
    unfolding statement_of block_frames
    never-full l e =
        let m : Config = R.state R.steps in
        let i : ℕ = m.frame.row in
        let t = subst (EndedBy room P k R.steps m) e R.has_ended in
        let F : FullAt m (row_numbered P i).stmt = step-full m room P t.1 in
        let fits = (within R.steps (omega arith)).fits in
        omega (
          arith,
          (rw (block_goes P i F.goes) at fits),
          frames-some (row_numbered P i) (block P (suc i)) frames F.method F.is_call,
          method-frames F.method,
          F.full,
          l,
        )
