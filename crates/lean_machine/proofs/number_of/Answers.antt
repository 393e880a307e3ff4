use mathlib.Core.Path.{◌∙◌}
use Rattle.rules.specs.Answers.{ending_number}
use Rattle.rules.specs.Lean as Lean
use Rattle.lean_heap.specs.Ghosts.{stop_of}
use Rattle.lean_machine.specs.Runs.{number, ending_in}
use Rattle.lean_machine.proofs.number_of.Goals as goal

pub returns-in-Finished : goal.returns-in-Finished
unfolding number ending_in Lean.ending_of ending_number
returns-in-Finished c = rw c.in-Finished.is

pub returns-in-StepsTaken : goal.returns-in-StepsTaken
unfolding number ending_in Lean.ending_of ending_number
returns-in-StepsTaken c = rw c.in-StepsTaken.is

pub returns-in-Stopped : goal.returns-in-Stopped
unfolding number ending_in Lean.ending_of ending_number stop_of
returns-in-Stopped c = c.stop_number.ensures ∙ rw c.in-Stopped.is
