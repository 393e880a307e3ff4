use Rattle.rules.specs.Answers.{stop_number}
use Rattle.rules.specs.Lean as Lean
use Rattle.lean_heap.specs.Ghosts.{stop_in, stop_of}
use Rattle.lean_machine.proofs.stop_number.Goals as goal

pub returns-in-HeapFull : goal.returns-in-HeapFull
unfolding stop_of stop_in Lean.stop_of stop_number
returns-in-HeapFull c = rw c.in-HeapFull.is

pub returns-in-FramesFull : goal.returns-in-FramesFull
unfolding stop_of stop_in Lean.stop_of stop_number
returns-in-FramesFull c = rw c.in-FramesFull.is

pub returns-in-Overflow : goal.returns-in-Overflow
unfolding stop_of stop_in Lean.stop_of stop_number
returns-in-Overflow c = rw c.in-Overflow.is
