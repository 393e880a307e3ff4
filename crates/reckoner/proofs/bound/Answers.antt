use Rattle.reckoner.proofs.Reckoned.{is-given, is-passed, at-line, there}
use Rattle.reckoner.proofs.bound.Goals as goal

pub returns-in-Ok : goal.returns-in-Ok
returns-in-Ok c = is-given _ _ c.reckon.ensures _ c.in-Ok.is

pub returns-in-Err-Passed : goal.returns-in-Err-Passed
returns-in-Err-Passed c = is-passed _ _ c.reckon.ensures (rw c.in-Err-Passed.field-0-is at c.in-Err-Passed.is)

pub unwrap-l-requires : goal.unwrap-l-requires
unwrap-l-requires c =
    there _ _ c.reckon.ensures (rw c.in-Err-Unbounded.field-0-is at c.in-Err-Unbounded.is) _ c.first_line.ensures

pub returns-in-Err-Unbounded : goal.returns-in-Err-Unbounded
returns-in-Err-Unbounded c =
    at-line _ _ c.reckon.ensures (rw c.in-Err-Unbounded.field-0-is at c.in-Err-Unbounded.is) _ c.first_line.ensures _ c.unwrap-l.ensures
