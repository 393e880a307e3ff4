use mathlib.Core.Path.{◌≡◌, ap, ◌∙◌}
use mathlib.Core.List.{List}
use Prim.Native.Nat.{ℕ}
use lib.ListN.{length}
use borrow.Author.Tests.{eq-eqb}
use Rattle.rules.specs.Limits.{work_bytes, results_bytes, program_steps}
use Rattle.rules.specs.Calls.{check_text, trial_text}
use Rattle.rules.specs.Areas.{packed, cleared, result_bytes, Checked, check_call, Ran, ran_call, trial_call}
use Rattle.rules.specs.Printed.{printed}
use Rattle.printer.specs.Writes.{Prints}
use Rattle.printer.specs.Answers.{printed_answers, Called}
use Rattle.printer.proofs.Called.{read-unless, printed-answers}
use Rattle.printer.proofs.print.Goals as goal

-- `printer::print` meets its contract. Assumes nothing.
-- the calls on areas of the right lengths
check-is : (t w : List ℕ) → length w ≡ work_bytes → check_call t w ≡ record { returned = packed (check_text t).0 (check_text t).1; work = cleared w }
unfolding check_call
check-is t w n = rw (eq-eqb (length w) work_bytes n)

trial-is : (t w : List ℕ) (k : ℕ) (b : List ℕ) → length w ≡ work_bytes → length b ≡ results_bytes →
    trial_call t w k b ≡ record { returned = packed (trial_text t k).number (trial_text t k).line; work = cleared w; results = result_bytes (trial_text t k) }
unfolding ran_call
trial-is t w k b m n = rw (eq-eqb (length w) work_bytes m, eq-eqb (length b) results_bytes n)

called : {t : List ℕ} (w v b : List ℕ) {checked ran : ℕ} {d : List ℕ} → length w ≡ work_bytes → length v ≡ work_bytes → length b ≡ results_bytes →
    checked ≡ (check_call t w).returned → ran ≡ (trial_call t v program_steps b).returned → d ≡ (trial_call t v program_steps b).results →
    Called t checked ran d
called {t = t} w v b l m n c r d =
    record {
      check = c ∙ ap (λ (x : Checked). x.returned) (check-is t w l);
      trial = r ∙ ap (λ (x : Ran). x.returned) (trial-is t v program_steps b m n);
      results = d ∙ ap (λ (x : Ran). x.results) (trial-is t v program_steps b m n);
    }

prints : {t : List ℕ} {checked ran : ℕ} {d o : List ℕ} {r : ℕ} → Called t checked ran d → Prints (printed_answers t checked ran d) o r →
    Prints (printed t) o r
prints c x = record { high = x.high; are = x.are ∙ printed-answers _ _ _ _ c }

pub put_answers-requires : goal.put_answers-requires
put_answers-requires c =
    let x = c.check-checked.ensures.0 ∙ ap (λ (x : Checked). x.returned) (check-is _ _ c.requires.0) in
    (c.requires.2, c.trial-ran.auto.results ∙ c.requires.1, read-unless _ _ x)

pub returns : goal.returns
returns c =
    let k = called _ _ _ c.requires.0 (c.check-checked.auto.work ∙ c.requires.0) c.requires.1 c.check-checked.ensures.0 c.trial-ran.ensures.0 c.trial-ran.ensures.2 in
    prints k c.put_answers.ensures
