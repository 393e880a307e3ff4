-- Demand 3 of document 01, and W13, for what the calls return, as statements. proofs/Demand3 proves them.
use Rattle.std.specs.Prelude.{◌≡◌, List, ◌⊎◌, ℕ, suc, ◌-◌, ◌<◌, length}
use Rattle.rules.specs.Limits.{work_bytes, results_bytes}
use Rattle.rules.specs.Answers.{accepted}
use Rattle.rules.specs.Items.{Item}
use Rattle.rules.specs.Reading.{read_text, program}
use Rattle.rules.specs.Machine.{Config, run}
use Rattle.rules.specs.Calls.{Result, run_text, trial_text, whole_heap, outcome_result}
use Rattle.rules.specs.Areas.{packed, cleared, result_bytes, check_call, Ran, run_call, trial_call, lean_call, number_in}
use Rattle.rules.specs.Syntax.{words}
use Rattle.rules.specs.Runs.{Run, CallStep}
use Rattle.rules.specs.Demand.{NotStuck, KeepsFrame, Claim, IsRefusal}
use Rattle.unseen.specs.Unseen.{Agree, method_part}
use Rattle.unseen.specs.Handed.{Halts}

-- areas of the right length, whatever they hold, and a number of steps
pub record Lent : Type 0 where
  pub work : List ℕ
  pub results : List ℕ
  pub steps : ℕ
  pub whole : length work ≡ work_bytes
  pub wide : length results ≡ results_bytes
  pub small : steps < words

-- run and trial over them
abbrev pub run_over : List ℕ → Lent → Ran
run_over t l = run_call t l.work l.steps l.results

abbrev pub trial_over : List ℕ → Lent → Ran
trial_over t l = trial_call t l.work l.steps l.results

-- what a call returns and leaves in the results area is number, line, steps and values of the answer r
pub record Returns (c : Ran) (r : Result) : Type 0 where
  pub returned : c.returned ≡ packed r.number r.line
  pub results : c.results ≡ result_bytes r

-- "For every text for which check returns 0, and every number of allowed steps, run with areas of the right length returns number"
-- one that is `NotStuck`: whatever area check was lent, and whatever areas run is. And the run that it answers with, its number, line,
-- count of steps and values, keeps in each of its calls what that call was not handed.
pub record ReturnsClaim (t : List ℕ) (l : Lent) : Type 0 where
  pub number : NotStuck (number_in (run_over t l).returned)
  pub claim : Claim t l.steps
  pub returns : Returns (run_over t l) (run_text t l.steps)

abbrev pub OneClaimReturned : Type 0
OneClaimReturned = (t area : List ℕ) → length area ≡ work_bytes → (check_call t area).returned ≡ 0 → (l : Lent) → ReturnsClaim t l

-- RUN CHECKS FIRST

-- "a text that the check refuses gets the check's number and line, with zeros in results"
pub record ReturnsRefusal (t : List ℕ) (l : Lent) : Type 0 where
  pub number : IsRefusal (number_in (run_over t l).returned)
  pub returned : (run_over t l).returned ≡ (check_call t l.work).returned
  pub results : (run_over t l).results ≡ cleared l.results

-- Of every text, whether check was called before or not: run returns what check does, 2 to 14, with zeros, or one of 0, 21, 22, 23
-- and 27. It never returns 24, 25 or 26.
abbrev pub RunReturnsNeverStuck : Type 0
RunReturnsNeverStuck = (t : List ℕ) (l : Lent) → ReturnsRefusal t l ⊎ NotStuck (number_in (run_over t l).returned)

-- and the whole claim so
abbrev pub EveryRunReturned : Type 0
EveryRunReturned = (t : List ℕ) (l : Lent) → ReturnsRefusal t l ⊎ ReturnsClaim t l

-- TRIAL

-- "An accepted text gets the same from both": the number, the line and every byte, over areas of any length
abbrev pub SameReturned : Type 0
SameReturned =
    (t area : List ℕ) → length area ≡ work_bytes → (check_call t area).returned ≡ 0 → (work : List ℕ) (steps : ℕ) (results : List ℕ) →
    run_call t work steps results ≡ trial_call t work steps results

-- of each text that the reader takes, accepted or not: the run that trial answers with keeps what its calls were not handed
pub record TrialKeepsFrame (t : List ℕ) (items : List Item) (l : Lent) : Type 0 where
  pub frame : KeepsFrame (trial_text t l.steps) items l.steps
  pub returns : Returns (trial_over t l) (trial_text t l.steps)

abbrev pub TrialReturned : Type 0
TrialReturned = (t : List ℕ) (items : List Item) → read_text t ≡ accepted items → (l : Lent) → TrialKeepsFrame t items l

-- WHAT ISN'T HANDED OVER ISN'T SEEN

-- the answer of a run that goes on from m with what is left of the k allowed steps, n of them taken
abbrev pub answer_from : List Item → ℕ → ℕ → Config → Result
answer_from items k n m = outcome_result (run whole_heap (program items) (k - n) n m)

-- W13: "both shall take the same lines, with equal results, an equal count of steps and the same stop. This covers trial as well as run". The
-- text's run R does a `call` as its step i + 1, and ends before that call does. From each state that agrees with the one after that step but
-- for the values of fields outside the called frame's permissions, it would have ended so that trial returns the same number and line and
-- leaves the same bytes; and run, if check returns 0 for the text, whatever area it is lent.
pub record ReturnsUnseen (t : List ℕ) (items : List Item) (l : Lent) (n : ℕ) (m : Config) : Type 0 where
  pub trial : Returns (trial_over t l) (answer_from items l.steps n m)
  pub run : (area : List ℕ) → length area ≡ work_bytes → (check_call t area).returned ≡ 0 → Returns (run_over t l) (answer_from items l.steps n m)

abbrev pub UnseenReturned : Type 0
UnseenReturned =
    (t : List ℕ) (items : List Item) → read_text t ≡ accepted items → (l : Lent) (R : Run whole_heap (program items) l.steps) (i : ℕ) →
    CallStep whole_heap (program items) R i → (m : Config) → Agree (R.state (suc i)) m → m.callers ≡ (R.state (suc i)).callers →
    Halts (method_part whole_heap (program items) (l.steps - suc i) (R.state (suc i))).leaving → ReturnsUnseen t items l (suc i) m

-- LEAN

-- "shall return the number, line, steps and values of run", and "gives a refused text the same number, line and results": of every text,
-- every number of steps and areas of any length, the number returned and every byte
abbrev pub LeanReturned : Type 0
LeanReturned = (t work : List ℕ) (steps : ℕ) (results : List ℕ) → lean_call t work steps results ≡ run_call t work steps results
