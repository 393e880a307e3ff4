-- W6's promises for what `station::bound` and `station::run` return: by their contracts they return, and leave in the areas, what
-- `bound_call` and `run_call` say. The statement is that of specs/Promises.
use mathlib.Core.Path.{◌≡◌, refl, sym, ap, ◌∙◌}
use mathlib.Core.List.{List, []}
use Prim.Native.Nat.{ℕ}
use native.Mathlib.Omega.{arith}
use lib.ListN.{length}
use borrow.Author.Tests.{eq-eqb}
use Rattle.rules.specs.Limits.{work_bytes, bounds_bytes}
use Rattle.rules.specs.Calls.{run_text, bound_text}
use Rattle.rules.specs.Areas.{packed, words_bytes, result_bytes, bound_bytes, bound_call, number_in}
use Rattle.tables.specs.Decode.{word_at}
use Rattle.bound_runs.proofs.Promises.{never_passed, enough-steps, frames-enough, frames-fit, bound-small, frames_small}
use Rattle.widths.proofs.Words.{word_first, word_on}
use Rattle.widths.proofs.Returned.{number-packed}
use Rattle.station.specs.Demand.{Lent, run_over}
use Rattle.station.specs.Promises.{KeptTo, BoundKept}
use Rattle.station.proofs.Texts.{run_fits}
use Rattle.station.proofs.Demand3.{run-returns}

module _ (t work bounds : List ℕ) (m : length work ≡ work_bytes) (n : length bounds ≡ bounds_bytes) where
  returned : (bound_call t work bounds).returned ≡ packed (bound_text t).number (bound_text t).line
  unfolding bound_call
  returned = rw (eq-eqb (length work) work_bytes m, eq-eqb (length bounds) bounds_bytes n)

  written : (bound_call t work bounds).bounds ≡ bound_bytes (bound_text t)
  unfolding bound_call
  written = rw (eq-eqb (length work) work_bytes m, eq-eqb (length bounds) bounds_bytes n)

  module _ (e : (bound_call t work bounds).returned ≡ 0) where
    given : (bound_text t).number ≡ 0
    unfolding packed
    given = omega (arith, (rw returned at e))

    -- the first word is the bound
    bound-word : word_at (bound_call t work bounds).bounds 0 ≡ (bound_text t).bound
    unfolding bound_bytes words_bytes
    bound-word = ap (λ a. word_at a 0) written ∙ word_first (bound_text t).bound _ (omega (arith, bound-small t given))

    -- the second is the frames
    frames-word : word_at (bound_call t work bounds).bounds 4 ≡ (bound_text t).frames
    unfolding bound_bytes words_bytes
    frames-word =
        ap (λ a. word_at a 4) written
        ∙ (word_on (bound_text t).bound _ 4 0 refl ∙ word_first (bound_text t).frames _ (omega (arith, frames_small t given)))

    module _ (l : Lent) where
      run-word : word_at (run_over t l).results 0 ≡ (run_text t l.steps).steps
      unfolding result_bytes words_bytes
      run-word =
          ap (λ a. word_at a 0) (run-returns t l).results
          ∙ word_first (run_text t l.steps).steps _ (omega (arith, never_passed t given l.steps, bound-small t given))

      run-number : number_in (run_over t l).returned ≡ (run_text t l.steps).number
      run-number =
          ap (λ (r : ℕ). number_in r) (run-returns t l).returned ∙ number-packed _ _ (run_fits t l.steps l.small).1

      kept : KeptTo t (bound_call t work bounds).bounds l
      kept =
          record {
            never_passed = rw (bound-word, run-word) (never_passed t given l.steps);
            enough = λ k q. enough-steps t given l.steps (rw bound-word at k) (sym run-number ∙ q);
            frames_enough = λ items r R i h. rw frames-word (frames-enough t given items r l.steps R i h);
            frames-fit = λ k q. frames-fit t given (rw frames-word at k) l.steps (sym run-number ∙ q);
          }

pub bound-kept : BoundKept
bound-kept t work bounds m n e l = kept t work bounds m n e l
