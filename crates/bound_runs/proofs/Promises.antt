-- W6's promises over texts: the statements are those of specs/Claims.
use mathlib.Core.Path.{◌≡◌, refl, sym, ap, ◌∙◌, subst}
use mathlib.Core.Bool.{Bool, true, false, cond}
use mathlib.Core.List.{List, [], ◌∷◌}
use mathlib.Core.Option.{Option, none, some}
use Prim.Native.Nat.{ℕ, zero, suc, ◌≤◌}
use native.Mathlib.Omega.{arith}
use lib.Dec.{T, leb, leb→le}
use lib.ListN.{length, get_or, drop}
use Rattle.rules.specs.Limits.{most_bound, most_frames}
use Rattle.rules.specs.Answers.{Verdict, Ending, accepted, refused, then, finished, steps_taken, stopped, ending_number, stop_number, bound_passed}
use Rattle.rules.specs.Answers.{heap_full, frames_full, permission_missing, null_followed, formula_false, overflow}
use Rattle.rules.specs.Syntax.{Row, Method, Program, no_method, method_numbered}
use Rattle.rules.specs.Items.{Item}
use Rattle.rules.specs.Reading.{read_text, program}
use Rattle.rules.specs.Machine.{ends}
use Rattle.rules.specs.Bounds.{main_bound, main_frames, first_repeating, bound_of, bound_program}
use Rattle.rules.specs.Calls.{check_items, checked_items, whole_heap, outcome_result, run_items, run_text_in, run_text, bound_items, bound_numbers, bound_text}
use Rattle.rules.specs.Runs.{Run, outcome, depth}
use Rattle.rules.proofs.Tries.{then-accepted, accepted-inj, refused-accepted, refusal-not-zero}
use Rattle.rules.proofs.Counting.{run-listed}
use Rattle.nesting.specs.Nests.{rows_nest}
use Rattle.nesting.proofs.ReadOrder.{BodiesNest, read-blocks}
use Rattle.bound_runs.specs.Claims.{NeverPassed, EnoughSteps, FramesEnough, NeverFull}
use Rattle.bound_runs.proofs.InBlock.{nests-more}
use Rattle.bound_runs.proofs.Moves.{Nested}
use Rattle.bound_runs.proofs.Left.{count-within, never-taken, never-full, frames-within}
use Rattle.bound_runs.proofs.Routes.{frames-below}

-- THE BLOCKS OF A TEXT
methods-nested : (P : Program) (Ms : List Method) → BodiesNest P.rows Ms → (n : ℕ) → Nested P (get_or Ms n (no_method P)).first
unfolding rows_nest
methods-nested P [] B n = ([], past P.rows, tt)
  where
    past : (l : List Row) → T (rows_nest true [] (drop (length l) l))
    past [] = tt
    past (r ∷ l) = past l
methods-nested P (M ∷ Ms) B zero = ([], nests-more [] (drop M.first P.rows) B.0, tt)
methods-nested P (M ∷ Ms) B (suc n) = methods-nested P Ms B.1 n

-- A BOUND THAT IS GIVEN: the text is read and accepted, no line is refused, and the bound is main's
record Given (t : List ℕ) : Type 0 where
  items : List Item
  is_read : read_text t ≡ accepted items
  is_checked : check_items items ≡ accepted tt
  none-repeats : first_repeating (program items) ≡ none
  is_bound : (bound_text t).bound ≡ main_bound (program items)
  is-frames : (bound_text t).frames ≡ main_frames (program items)
  fits : (bound_text t).bound ≤ most_bound

record Main (P : Program) (b : ℕ × ℕ) : Type 0 where
  fits : b.0 ≤ most_bound
  none-repeats : first_repeating P ≡ none
  is_bound : b.0 ≡ main_bound P
  is-frames : b.1 ≡ main_frames P

main-given : (P : Program) (o : Option Row) → first_repeating P ≡ o → (b : ℕ × ℕ) → bound_of P o ≡ accepted b → Main P b
unfolding bound_of
main-given P (some r) e b q = refused-accepted q
main-given P none e b q = go (leb (main_bound P) most_bound) refl q
  where
    go : (c : Bool) → leb (main_bound P) most_bound ≡ c → cond c (accepted (main_bound P, main_frames P)) (refused bound_passed 0) ≡ accepted b → Main P b
    go true w q =
        let is : (main_bound P, main_frames P) ≡ b = accepted-inj q in
        let l : main_bound P ≤ most_bound = leb→le (main_bound P) most_bound (subst T (sym w) tt) in
        record { fits = subst (λ (b : ℕ × ℕ). b.0 ≤ most_bound) is l; none-repeats = e; is_bound = sym (ap (λ (b : ℕ × ℕ). b.0) is); is-frames = sym (ap (λ (b : ℕ × ℕ). b.1) is) }
    go false w q = refused-accepted q

given : (t : List ℕ) → (bound_text t).number ≡ 0 → Given t
unfolding bound_text bound_numbers bound_items bound_program
given t e = go (then (read_text t) bound_items) refl e
  where
    go : (v : Verdict (ℕ × ℕ)) → then (read_text t) bound_items ≡ v → (bound_numbers v).number ≡ 0 → Given t
    go (refused r l) q n = refusal-not-zero r n
    go (accepted b) q n =
        let (items, r, c) = then-accepted (read_text t) bound_items b q in
        let (_, checked, f) = then-accepted (check_items items) (λ u. bound_program (program items)) b c in
        let M : Main (program items) b = main-given (program items) (first_repeating (program items)) refl b f in
        record {
          items = items;
          is_read = r;
          is_checked = checked;
          none-repeats = M.none-repeats;
          is_bound = ap (λ (v : Verdict (ℕ × ℕ)). (bound_numbers v).bound) q ∙ M.is_bound;
          is-frames = ap (λ (v : Verdict (ℕ × ℕ)). (bound_numbers v).frames) q ∙ M.is-frames;
          fits = subst (λ (v : Verdict (ℕ × ℕ)). (bound_numbers v).bound ≤ most_bound) (sym q) M.fits;
        }

only-21 : (e : Ending) → ending_number e ≡ 21 → e ≡ steps_taken
unfolding ending_number stop_number
only-21 finished q = absurd (omega arith)
only-21 steps_taken q = refl
only-21 (stopped heap_full) q = absurd (omega arith)
only-21 (stopped frames_full) q = absurd (omega arith)
only-21 (stopped permission_missing) q = absurd (omega arith)
only-21 (stopped null_followed) q = absurd (omega arith)
only-21 (stopped formula_false) q = absurd (omega arith)
only-21 (stopped overflow) q = absurd (omega arith)

only-23 : (e : Ending) → ending_number e ≡ 23 → e ≡ stopped frames_full
unfolding ending_number stop_number
only-23 finished q = absurd (omega arith)
only-23 steps_taken q = absurd (omega arith)
only-23 (stopped heap_full) q = absurd (omega arith)
only-23 (stopped frames_full) q = refl
only-23 (stopped permission_missing) q = absurd (omega arith)
only-23 (stopped null_followed) q = absurd (omega arith)
only-23 (stopped formula_false) q = absurd (omega arith)
only-23 (stopped overflow) q = absurd (omega arith)

-- ITS RUNS
module _ (t : List ℕ) (e : (bound_text t).number ≡ 0) where
  abbrev P : Program
  P = program (given t e).items

  nested : (n : ℕ) → Nested P (method_numbered P n).first
  unfolding method_numbered
  nested n = methods-nested P P.methods (read-blocks t (given t e).items (given t e).is_read).0 n

  main-nested : Nested P P.main
  main-nested = ([], nests-more [] (drop P.main P.rows) (read-blocks t (given t e).items (given t e).is_read).1, tt)

  answers : (k : ℕ) → run_text t k ≡ outcome_result (outcome whole_heap P (run-listed whole_heap P k).0)
  unfolding run_text run_text_in run_items checked_items then
  answers k = rw ((given t e).is_read, (given t e).is_checked) (ap outcome_result (run-listed whole_heap P k).1)

  never : (k : ℕ) → (run_text t k).steps ≤ (bound_text t).bound
  unfolding outcome_result outcome ends
  never k =
      rw (answers k, (given t e).is_bound)
      (count-within P (given t e).none-repeats nested main-nested whole_heap (run-listed whole_heap P k).0)

  enough : (k : ℕ) → (bound_text t).bound ≤ k → (run_text t k).number ≡ 21 → ⊥
  unfolding outcome_result outcome ends
  enough k l q =
      never-taken P (given t e).none-repeats nested main-nested whole_heap (run-listed whole_heap P k).0
      (rw (given t e).is_bound at l) (only-21 _ (rw (answers k) at q))

  room-left : (bound_text t).frames ≤ most_frames → (k : ℕ) → (run_text t k).number ≡ 23 → ⊥
  unfolding outcome_result outcome ends
  room-left l k q =
      never-full P (given t e).none-repeats nested main-nested whole_heap (run-listed whole_heap P k).0
      (rw (given t e).is-frames at l) (only-23 _ (rw (answers k) at q))

  open-frames : (k : ℕ) (R : Run whole_heap P k) (i : ℕ) → i ≤ R.steps → suc (depth (R.state i)) ≤ (bound_text t).frames
  open-frames k R i l =
      rw (given t e).is-frames (frames-within P (given t e).none-repeats nested main-nested whole_heap R i l)

-- "no run's count passes it"
pub never_passed : NeverPassed
never_passed t e k = never t e k

-- "a run allowed that many steps never answers 21"
pub enough-steps : EnoughSteps
enough-steps t e k l q = enough t e k l q

-- no more frames are open after any step
pub frames-enough : FramesEnough
frames-enough t e items r k =
    subst (λ items. (R : Run whole_heap (program items) k) (i : ℕ) → i ≤ R.steps → suc (depth (R.state i)) ≤ (bound_text t).frames)
    (accepted-inj (sym (given t e).is_read ∙ r)) (open-frames t e k)

-- a bound that is given is at most the greatest
pub bound-small : (t : List ℕ) → (bound_text t).number ≡ 0 → (bound_text t).bound ≤ most_bound
bound-small t e = (given t e).fits

-- where they fit, 23 does not come
pub frames-fit : NeverFull
frames-fit t e l k q = room-left t e l k q

-- and each frame on a route has a line of the bound
pub frames_small : (t : List ℕ) → (bound_text t).number ≡ 0 → (bound_text t).frames ≤ most_bound
frames_small t e =
    let g = given t e in omega (arith, g.is-frames, g.is_bound, g.fits, frames-below (program g.items))
