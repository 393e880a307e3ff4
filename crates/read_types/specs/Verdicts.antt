-- What the tests of numbers 6, 7 and 9 say of a line or of a part of it.
use Rattle.std.specs.Prelude.{Bool, cond, Result, Ok, Err}
use Rattle.read_types.specs.declared.Fault.{Fault}

-- what the tests say: good, or a fault
abbrev pub Verdict : Type 0
Verdict = Result (Unit {0}) Fault

-- v, if a test is passed
unfoldable pub test : Bool → Fault → Verdict → Verdict
test b f v = cond b v (Err f)

-- by whether all is known (6), typed (7) and assignable (9): "(for two on one line the lower)"
unfoldable pub judged : Bool → Bool → Bool → Verdict
judged k t a = test k Fault.Undeclared (test t Fault.WrongType (test a Fault.WrongTarget (Ok tt)))

-- the second, if the first is good
unfoldable pub and_then : Verdict → Verdict → Verdict
and_then (Ok u) v = v
and_then (Err f) v = Err f

unfoldable pub lower_fault : Fault → Fault → Fault
lower_fault Fault.Undeclared g = Fault.Undeclared
lower_fault Fault.WrongType Fault.Undeclared = Fault.Undeclared
lower_fault Fault.WrongType Fault.WrongType = Fault.WrongType
lower_fault Fault.WrongType Fault.WrongTarget = Fault.WrongType
lower_fault Fault.WrongTarget g = g

-- of two parts
unfoldable pub lower : Verdict → Verdict → Verdict
lower (Ok u) v = v
lower (Err f) (Ok u) = Err f
lower (Err f) (Err g) = Err (lower_fault f g)

-- Everything above computes where this unfolds.
unfoldable pub opened : Unit {0}
unfolding test judged and_then lower_fault lower
opened = tt
