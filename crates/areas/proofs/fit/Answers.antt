use mathlib.Core.Path.{sym}
use borrow.Author.Tests.{eq-eqb, ne_eqb}
use Rattle.areas.specs.Lengths.{areas_fit}
use Rattle.areas.proofs.fit.Goals as goal

-- `areas::fit` meets its contract. Assumes nothing.
pub returns-then-work-ne-WORK_BYTES : goal.returns-then-work-ne-WORK_BYTES
unfolding areas_fit
returns-then-work-ne-WORK_BYTES c = sym (rw (ne_eqb _ _ c.if-work-ne-WORK_BYTES.true))

pub returns : goal.returns
unfolding areas_fit
returns c = sym (rw (eq-eqb _ _ c.if-work-ne-WORK_BYTES.false))
