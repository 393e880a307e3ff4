use mathlib.Core.Path.{sym}
use Rattle.run_steps.proofs.Doing.{does-answer, assert-does, assert-stops}
use Rattle.run_footprint.proofs.Taking.{took-shares, took-lacking}
use Rattle.run_heap.proofs.Reading.{passed-on}
use Rattle.run_steps.proofs.assert_step.Goals as goal

pub returns : goal.returns
returns c = assert-does c.requires.0 _ c.requires.1 (took-shares _ _ _ c.in_ok-row_footprint.was c.row_footprint.ensures.took) c.next.ensures

pub returns-in_err-row_footprint : goal.returns-in_err-row_footprint
returns-in_err-row_footprint c =
    does-answer (sym (passed-on _ _ c.from_residual.ensures.1)) (assert-stops c.requires.0 _ (took-lacking _ _ _ c.in_err-row_footprint.was c.row_footprint.ensures.took))
