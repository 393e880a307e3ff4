use Rattle.rules.specs.Answers.{stop_number}
use Rattle.machine.specs.Runs.{fault_number}
use Rattle.run_heap.specs.Views.{stop_of}
use Rattle.machine.proofs.fault_number.Goals as goal

pub returns-in-HeapFull : goal.returns-in-HeapFull
unfolding fault_number stop_number stop_of
returns-in-HeapFull c = rw c.in-HeapFull.is

pub returns-in-FramesFull : goal.returns-in-FramesFull
unfolding fault_number stop_number stop_of
returns-in-FramesFull c = rw c.in-FramesFull.is

pub returns-in-Permission : goal.returns-in-Permission
unfolding fault_number stop_number stop_of
returns-in-Permission c = rw c.in-Permission.is

pub returns-in-Null : goal.returns-in-Null
unfolding fault_number stop_number stop_of
returns-in-Null c = rw c.in-Null.is

pub returns-in-False : goal.returns-in-False
unfolding fault_number stop_number stop_of
returns-in-False c = rw c.in-False.is

pub returns-in-Overflow : goal.returns-in-Overflow
unfolding fault_number stop_number stop_of
returns-in-Overflow c = rw c.in-Overflow.is
