use Rattle.station.proofs.Bounded.{outcome-given, outcome-unbounded, outcome-passed}
use Rattle.station.proofs.bounds.bound_tables.Goals as goal

pub returns-in-Ok : goal.returns-in-Ok
returns-in-Ok c =
    outcome-given _ _ c.bound.ensures _ c.in-Ok.is c.put_bounds.ensures

pub returns-in-Err-Unbounded : goal.returns-in-Err-Unbounded
returns-in-Err-Unbounded c =
    outcome-unbounded _ _ c.bound.ensures _ c.requires.1 c.clear.ensures _ (rw c.in-Err-Unbounded.field-0-is at c.in-Err-Unbounded.is)

pub returns-in-Err-Passed : goal.returns-in-Err-Passed
returns-in-Err-Passed c =
    outcome-passed _ _ c.bound.ensures _ c.requires.1 c.clear-in-Err-Passed.ensures (rw c.in-Err-Passed.field-0-is at c.in-Err-Passed.is)
