-- What check and trial give for any text fits the numbers that they return and the words of the results area.
use mathlib.Core.Path.{◌≡◌, refl}
use mathlib.Core.List.{List}
use Prim.Native.Nat.{ℕ, zero, suc, ◌≤◌, ◌<◌}
use native.Mathlib.Omega.{arith}
use lib.ListN.{length, get_or, replicate}
use Rattle.rules.specs.Limits.{most_bytes, values_shown}
use Rattle.rules.specs.Answers.{Verdict, accepted, refused, then}
use Rattle.rules.specs.Items.{Item}
use Rattle.rules.specs.Reading.{read_text, program}
use Rattle.rules.specs.Machine.{run_program}
use Rattle.rules.specs.Calls.{check_items, check_text, verdict_numbers, trial_text, run_items, outcome_result, refused_result, whole_heap}
use Rattle.rules.specs.Areas.{packed, number_in, line_in}
use Rattle.rules.proofs.LinesTaken.{read_taken}
use Rattle.widths.proofs.ReadBounds.{all-get, Small, Within, read-within, items-small, items-few, program-fits, check-within}
use Rattle.widths.proofs.RunBounds.{outcome_fits}

-- NUMBERS
pub number-packed : (n l : ℕ) → l < 65536 → number_in (packed n l) ≡ n
unfolding packed
number-packed n l h = omega arith

pub line-packed : (n l : ℕ) → l < 65536 → line_in (packed n l) ≡ l
unfolding packed
line-packed n l h = omega arith

-- ANSWERS

-- with k steps allowed lines fit 16 bits, steps and values 32
pub record AnswersFit (t : List ℕ) (k : ℕ) : Type 0 where
  pub check-line : (check_text t).1 < 65536
  pub trial-line : (trial_text t k).line < 65536
  pub steps : (trial_text t k).steps < 4294967296
  pub shown : length (trial_text t k).values ≡ values_shown
  pub values : (i : ℕ) → get_or (trial_text t k).values i 0 < 4294967296

line-within : (n : ℕ) (v : Verdict (Unit {0})) → Within n v → (verdict_numbers v).1 ≤ n
unfolding verdict_numbers
line-within n (accepted u) x = omega arith
line-within n (refused r l) x = x

pub fits : (t : List ℕ) (k : ℕ) → k < 4294967296 → AnswersFit t k
unfolding check_text trial_text run_items outcome_result refused_result then verdict_numbers
fits t k small = go (read_text t) refl (read-within t)
  where
    go : (v : Verdict (List Item)) → read_text t ≡ v → Within most_bytes v → AnswersFit t k
    go (accepted items) e w =
        let few = items-few t items e in
        let (text, x) = read_taken t items e in
        let s = items-small text x in
        let l = line-within most_bytes (check_items items) (check-within most_bytes items few s) in
        let o = outcome_fits most_bytes whole_heap (program items) (omega arith) (program-fits most_bytes items few s) k in
        record {
          check-line = rw e (omega (arith, l));
          trial-line = rw e (omega (arith, o.line));
          steps = rw e (omega (arith, o.steps, small));
          shown = rw e o.shown;
          values = λ i. rw e (all-get Small (run_program whole_heap (program items) k).values 0 i (omega arith) o.values);
        }
    go (refused r l) e w =
        record {
          check-line = rw e (omega (arith, w));
          trial-line = rw e (omega (arith, w));
          steps = rw e (omega arith);
          shown = rw e refl;
          values = λ i. rw e (zeros 12 i);
        }
      where
        zeros : (n i : ℕ) → Small (get_or (replicate n 0) i 0)
        zeros zero i = omega arith
        zeros (suc n) zero = omega arith
        zeros (suc n) (suc i) = zeros n i
