-- Demand 3 of document 01 over texts: one claim about the whole run, and its two halves; the same of run without check before it;
-- what run and trial have in common, and run and lean. The crate `soundness` proves them.
use Rattle.std.specs.Prelude.{◌≡◌, List, ◌⊎◌, ℕ, ◌≤◌}
use Rattle.rules.specs.Answers.{accepted}
use Rattle.rules.specs.Items.{Item}
use Rattle.rules.specs.Reading.{read_text, program}
use Rattle.rules.specs.Calls.{Result, check_text, run_text, trial_text, lean_text, whole_heap, outcome_result, refused_result}
use Rattle.rules.specs.Runs.{Run, FrameKept, HalvesKept, ChainsEnd, ChainsHanded, outcome}

-- "run .. returns number 0, 21, 22 or 23"; of 27, "an accepted script may end so as well"; "What an accepted script can't stop on now
-- includes a false invariant."
abbrev pub NotStuck : ℕ → Type 0
NotStuck n = (n ≡ 0) ⊎ (n ≡ 21) ⊎ (n ≡ 22) ⊎ (n ≡ 23) ⊎ (n ≡ 27)

-- First half: "For every text for which check returns 0, and every number of allowed steps"
abbrev pub AcceptedNeverStuck : Type 0
AcceptedNeverStuck = (t : List ℕ) → check_text t ≡ (0, 0) → (k : ℕ) → NotStuck (run_text t k).number

-- a text that was read as these items: its run with k allowed steps. The answer r is what this run does (number, line, count of
-- steps, values), "each `call` step done in it" keeps what it was not handed whole, no location ever has more than two halves, and whoever holds a
-- chain, or is handed one, is at a list of its own that ends in null.
pub record KeepsFrame (r : Result) (items : List Item) (k : ℕ) : Type 0 where
  pub run : Run whole_heap (program items) k
  pub answered : r ≡ outcome_result (outcome whole_heap (program items) run)
  pub kept : FrameKept whole_heap (program items) run
  pub halves : HalvesKept whole_heap (program items) run
  pub chains : ChainsEnd whole_heap (program items) run
  pub handed : ChainsHanded whole_heap (program items) run

-- Second half, of what trial answers for each text that the reader takes, accepted or not
abbrev pub CallsKeepFrame : Type 0
CallsKeepFrame = (t : List ℕ) (items : List Item) → read_text t ≡ accepted items → (k : ℕ) → KeepsFrame (trial_text t k) items k

-- "This is one claim about the whole run": the text was read, its run is one list of steps, that run answers one of these numbers, and
-- each call in it keeps what it was not handed whole.
pub record Claim (t : List ℕ) (k : ℕ) : Type 0 where
  pub items : List Item
  pub is_read : read_text t ≡ accepted items
  pub whole_run : KeepsFrame (run_text t k) items k
  pub number : NotStuck (run_text t k).number

-- "For every text for which check returns 0, and every number of allowed steps"
abbrev pub OneClaim : Type 0
OneClaim = (t : List ℕ) → check_text t ≡ (0, 0) → (k : ℕ) → Claim t k

-- RUN CHECKS FIRST

-- one of the rows from 2, "text too long", to 14, "state full"
abbrev pub IsRefusal : ℕ → Type 0
IsRefusal n = (2 ≤ n) × (n ≤ 14)

-- "a text that the check refuses gets the check's number and line, with zeros in results"
pub record RunRefuses (t : List ℕ) (k : ℕ) : Type 0 where
  pub number : IsRefusal (check_text t).0
  pub answer : run_text t k ≡ refused_result (check_text t)

-- Of every text and every number of allowed steps, whether check was asked before or not: run refuses as check does, with 2 to 14 and
-- zeros, or ends with 0, 21, 22, 23 or 27. It never stops with 24, 25 or 26.
abbrev pub RunNeverStuck : Type 0
RunNeverStuck = (t : List ℕ) (k : ℕ) → RunRefuses t k ⊎ NotStuck (run_text t k).number

-- and the whole claim so
abbrev pub EveryRun : Type 0
EveryRun = (t : List ℕ) (k : ℕ) → RunRefuses t k ⊎ Claim t k

-- "An accepted text gets the same from both."
abbrev pub SameFromBoth : Type 0
SameFromBoth = (t : List ℕ) → (check_text t).0 ≡ 0 → (k : ℕ) → run_text t k ≡ trial_text t k

-- LEAN

-- W10: it "shall return the number, line, steps and values of run on every accepted text", and "gives a refused text the same number, line
-- and results": of every text and every number of allowed steps
abbrev pub LeanIsRun : Type 0
LeanIsRun = (t : List ℕ) (k : ℕ) → lean_text t k ≡ run_text t k
