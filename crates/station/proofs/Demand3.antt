-- Demand 3 of document 01 and W13, proved for what `station::check`, `station::run`, `station::trial` and `station::lean` return: by their contracts they
-- return, and leave in the areas, what `check_call`, `run_call`, `trial_call` and `lean_call` say. The statements are those of specs/Demand.
use mathlib.Core.Path.{◌≡◌, sym, ap, subst, ◌∙◌}
use mathlib.Core.List.{List}
use mathlib.Core.Logic.{inl, inr, ⊎_elim}
use Prim.Native.Nat.{ℕ, ◌/◌}
use native.Mathlib.Omega.{arith}
use lib.ListN.{length, replicate}
use borrow.Author.Tests.{eq-eqb}
use Rattle.rules.specs.Limits.{work_bytes, results_bytes}
use Rattle.rules.specs.Calls.{Result, check_text, refused_result, run_text, trial_text}
use Rattle.rules.specs.Areas.{packed, cleared, word_bytes, words_bytes, result_bytes, check_call, ran_call}
use Rattle.rules.specs.Demand.{NotStuck, Claim, IsRefusal, RunRefuses}
use Rattle.soundness.proofs.LeanRuns.{lean-is-run}
use Rattle.unseen.proofs.Handed.{same-answered}
use Rattle.soundness.proofs.Demand3.{same-from-both, calls-keep-frame, one-claim, every-run}
use Rattle.widths.proofs.Returned.{number-packed}
use Rattle.station.specs.Demand.{Lent, run_over, trial_over, Returns, ReturnsClaim, OneClaimReturned, ReturnsRefusal, RunReturnsNeverStuck, EveryRunReturned, SameReturned, TrialReturned, UnseenReturned, LeanReturned}
use Rattle.station.proofs.Texts.{run_fits}

-- WHAT THE CALLS RETURN ON AREAS OF THE RIGHT LENGTH
pub check-returned : (t w : List ℕ) → length w ≡ work_bytes → (check_call t w).returned ≡ packed (check_text t).0 (check_text t).1
unfolding check_call
check-returned t w n = rw (eq-eqb (length w) work_bytes n)

call_returns : (r : Result) (l : Lent) → Returns (ran_call r l.work l.results) r
unfolding ran_call
call_returns r l =
    let w = eq-eqb (length l.work) work_bytes l.whole in
    let b = eq-eqb (length l.results) results_bytes l.wide in
    record { returned = rw (w, b); results = rw (w, b) }

pub run-returns : (t : List ℕ) (l : Lent) → Returns (run_over t l) (run_text t l.steps)
run-returns t l = call_returns (run_text t l.steps) l

pub trial-returns : (t : List ℕ) (l : Lent) → Returns (trial_over t l) (trial_text t l.steps)
trial-returns t l = call_returns (trial_text t l.steps) l

zero-packed : (p : ℕ × ℕ) → packed p.0 p.1 ≡ 0 → p ≡ (0, 0)
unfolding packed
zero-packed (n, l) e =
    let a : n ≡ 0 = omega (arith, e) in
    let b : l ≡ 0 = omega (arith, e) in
    λ i. (a i, b i)

-- check returned 0
accepted-text : (t w : List ℕ) → length w ≡ work_bytes → (check_call t w).returned ≡ 0 → check_text t ≡ (0, 0)
accepted-text t w n e = zero-packed (check_text t) (sym (check-returned t w n) ∙ e)

-- the number that run returns
run-number : (t : List ℕ) (l : Lent) → (run_over t l).returned / 65536 ≡ (run_text t l.steps).number
run-number t l =
    ap (λ (r : ℕ). r / 65536) (run-returns t l).returned ∙ number-packed _ _ (run_fits t l.steps l.small).1

-- DEMAND 3
claim-returned : (t : List ℕ) (l : Lent) → Claim t l.steps → ReturnsClaim t l
claim-returned t l C =
    record { number = subst NotStuck (sym (run-number t l)) C.number; claim = C; returns = run-returns t l }

-- If check returned 0 for a text, run returns a number for it that is `NotStuck`, and answers with a run in which every call keeps
-- what it was not handed.
pub one-claim-returned : OneClaimReturned
one-claim-returned t w n e l = claim-returned t l (one-claim t (accepted-text t w n e) l.steps)

-- RUN CHECKS FIRST
zero-bytes : (v : ℕ × ℕ) (b : List ℕ) → length b ≡ results_bytes → result_bytes (refused_result v) ≡ cleared b
unfolding result_bytes refused_result words_bytes word_bytes cleared
zero-bytes v b e = sym (ap (λ (n : ℕ). replicate n 0) e)

refusal-returned : (t : List ℕ) (l : Lent) → RunRefuses t l.steps → ReturnsRefusal t l
unfolding refused_result
refusal-returned t l R =
    let x = run-returns t l in
    let e = R.answer in
    record {
      number = subst IsRefusal (sym (run-number t l ∙ ap (λ (r : Result). r.number) e)) R.number;
      returned = x.returned ∙ (ap (λ (r : Result). packed r.number r.line) e ∙ sym (check-returned t l.work l.whole));
      results = x.results ∙ (ap result_bytes e ∙ zero-bytes (check_text t) l.results l.wide);
    }

-- Whatever the text: run returns what check does, with zeros, or the claim holds of what it returns.
pub every-run-returned : EveryRunReturned
every-run-returned t l =
    ⊎_elim (λ R. inl (refusal-returned t l R)) (λ C. inr (claim-returned t l C)) (every-run t l.steps)

-- Whatever the text: it never returns 24, 25 or 26.
pub run-returns-never-stuck : RunReturnsNeverStuck
run-returns-never-stuck t l = ⊎_elim inl (λ C. inr C.number) (every-run-returned t l)

-- TRIAL
pub same-returned : SameReturned
same-returned t area n e w k b =
    ap (λ (r : Result). ran_call r w b) (same-from-both t (ap (λ (p : ℕ × ℕ). p.0) (accepted-text t area n e)) k)

pub trial-returned : TrialReturned
trial-returned t items e l = record { frame = calls-keep-frame t items e l.steps; returns = trial-returns t l }

-- WHAT ISN'T HANDED OVER ISN'T SEEN
pub unseen-returned : UnseenReturned
unseen-returned t items e l R i C m A c h =
    let (x, y) = same-answered t items e l.steps R i C m A c h in
    record {
      trial = subst (Returns (trial_over t l)) (sym x) (trial-returns t l);
      run =
          λ area n z.
          subst (Returns (run_over t l)) (sym (y (ap (λ (p : ℕ × ℕ). p.0) (accepted-text t area n z)))) (run-returns t l);
    }

-- LEAN
pub lean-returned : LeanReturned
lean-returned t work steps results = ap (λ (r : Result). ran_call r work results) (lean-is-run t steps)
