-- What a run by the code ends with: the definition's outcome, with main's values in the work area.
use Rattle.std.specs.Prelude.{◌≡◌, List, [], ◌∷◌, ℕ, zero, suc, ◌+◌, ◌*◌}
use Rattle.rules.specs.Limits.{values_shown}
use Rattle.rules.specs.Answers as Answers
use Rattle.rules.specs.Answers.{finished, steps_taken, stopped, stop_number, ending_number}
use Rattle.rules.specs.Syntax.{first_local}
use Rattle.rules.specs.Machine.{Room, Outcome, run_program}
use Rattle.tables.specs.Layout.{frames_at}
use Rattle.tables.specs.Decode.{word_at, program_in}
use Rattle.tables.specs.Stores.{SameTables}
use Rattle.run_heap.specs.declared.Fault.{Fault}
use Rattle.run_steps.specs.declared.ends.Ending.{Ending}
use Rattle.run_steps.specs.declared.ends.Ran as Ends
use Rattle.run_heap.specs.Views.{word_size, stop_of}

-- what a run ends with
abbrev pub Ran : Type 0
Ran = Ends.Ran Fault

-- how it ends
unfoldable pub ending_of : Ending Fault → Answers.Ending
ending_of Ending.Finished = finished
ending_of Ending.StepsTaken = steps_taken
ending_of (Ending.Stopped f) = stopped (stop_of f)

-- the number of document 01 for why a step is not done: `stop_number`
unfoldable pub fault_number : Fault → ℕ
fault_number f = stop_number (stop_of f)

-- "main's `end` done", "allowed steps taken", or why the run stopped
unfoldable pub number : Ending Fault → ℕ
number e = ending_number (ending_of e)

-- n words from i on
unfoldable pub words : List ℕ → ℕ → ℕ → List ℕ
words w i zero = []
words w i (suc n) = word_at w i ∷ words w (i + word_size) n

-- main's twelve values: its locals, in the first frame
abbrev pub main_values : List ℕ → List ℕ
main_values w = words w (frames_at + first_local * word_size) values_shown

abbrev pub outcome_in : List ℕ → Ran → Outcome
outcome_in w r = record { ending = ending_of r.ending; line = r.line; steps = r.steps; values = main_values w }

-- a run of the program that w holds, on a heap with this room, with k steps allowed
pub record RanAs (room : Room) (w : List ℕ) (k : ℕ) (w' : List ℕ) (r : Ran) : Type 0 where
  pub tables : SameTables w w'
  pub outcome : run_program room (program_in w) k ≡ outcome_in w' r
