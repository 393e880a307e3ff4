-- What a run by the lean code ends with: the outcome of the definitions, on every accepted program.
use Rattle.std.specs.Prelude.{◌≡◌, List, ℕ}
use Rattle.rules.specs.Answers.{accepted, ending_number}
use Rattle.rules.specs.Syntax.{Program}
use Rattle.rules.specs.Rules.{check_program}
use Rattle.rules.specs.Lean as Lean
use Rattle.rules.specs.Calls.{whole_heap}
use Rattle.soundness.specs.WellFormed.{WellFormed}
use Rattle.tables.specs.Decode.{program_in}
use Rattle.tables.specs.Stores.{SameTables}
use Rattle.machine.specs.Runs.{main_values}
use Rattle.lean_heap.specs.declared.Counters.{Counters}
use Rattle.tables.specs.Layout.{frames_at}
use Rattle.lean_heap.specs.Ghosts.{stop_in}
use Rattle.run_steps.specs.declared.ends.Ending.{Ending}
use Rattle.run_steps.specs.declared.ends.Ran as Ends
use Rattle.lean_heap.specs.declared.Stop.{Stop}

-- the program of an accepted text
abbrev pub Accepted : Program → Type 0
Accepted P = WellFormed P × (check_program P ≡ accepted tt)

-- "from the empty heap and main's frame"
abbrev pub fresh : ℕ → Counters
fresh row = record { objects = 0; fields = 0; frames = 1; base = frames_at; row = row; steps = 0 }

-- what a run ends with
abbrev pub Ran : Type 0
Ran = Ends.Ran Stop

unfoldable pub ending_in : Ending Stop → Lean.Ending
ending_in Ending.Finished = Lean.Ending.finished
ending_in Ending.StepsTaken = Lean.Ending.steps_taken
ending_in (Ending.Stopped s) = Lean.Ending.stopped (stop_in s)

-- the number of document 01 for it
unfoldable pub number : Ending Stop → ℕ
number e = ending_number (Lean.ending_of (ending_in e))

abbrev pub outcome_in : List ℕ → Ran → Lean.Outcome
outcome_in w r = record { ending = ending_in r.ending; line = r.line; steps = r.steps; values = main_values w }

-- a run of the accepted program that w holds, with k steps allowed
pub record RanAs (w : List ℕ) (k : ℕ) (w' : List ℕ) (r : Ran) : Type 0 where
  pub tables : SameTables w w'
  pub outcome : Lean.outcome_of (Lean.run_program whole_heap (program_in w) k) ≡ Lean.outcome_of (outcome_in w' r)
