-- How a run of an accepted program may end.
use Rattle.rules.specs.Answers.{Stop, Ending, finished, steps_taken, stopped, heap_full, frames_full, permission_missing, null_followed, formula_false, overflow}

-- a step may stop because the machine is full, or a result does not fit
abbrev pub MayStop : Stop → Type 0
MayStop heap_full = Unit {0}
MayStop frames_full = Unit {0}
MayStop permission_missing = ⊥
MayStop null_followed = ⊥
MayStop formula_false = ⊥
MayStop overflow = Unit {0}

-- main's `end` is done, or the allowed steps are taken, or a step stopped so
abbrev pub EndsUnstuck : Ending → Type 0
EndsUnstuck finished = Unit {0}
EndsUnstuck steps_taken = Unit {0}
EndsUnstuck (stopped s) = MayStop s
