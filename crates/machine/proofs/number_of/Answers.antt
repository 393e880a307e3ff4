use Rattle.rules.specs.Answers.{ending_number}
use Rattle.machine.specs.Runs.{fault_number, number, ending_of}
use mathlib.Core.Path.{◌∙◌}
use Rattle.machine.proofs.number_of.Goals as goal

pub returns-in-Finished : goal.returns-in-Finished
unfolding number ending_number ending_of
returns-in-Finished c = rw c.in-Finished.is

pub returns-in-StepsTaken : goal.returns-in-StepsTaken
unfolding number ending_number ending_of
returns-in-StepsTaken c = rw c.in-StepsTaken.is

pub returns-in-Stopped : goal.returns-in-Stopped
unfolding number ending_number ending_of fault_number
returns-in-Stopped c = c.fault_number.ensures ∙ rw c.in-Stopped.is
