use mathlib.Core.Path.{◌∙◌, sym}
use Rattle.run_steps.proofs.Doing.{does-answer, view-readable, release-fit, release-does, release-stops}
use Rattle.run_footprint.proofs.Taking.{took-shares, took-lacking, count-shares}
use Rattle.run_heap.proofs.Reading.{passed-on}
use Rattle.run_steps.proofs.release_step.Goals as goal

pub mark-requires : goal.mark-requires
mark-requires c =
    let t = took-shares _ _ _ c.in_ok-n.was c.row_footprint.ensures.took in ((view-readable c.requires.0 c.view_of.ensures, count-shares _ _ _ c.in_ok-n.was c.row_footprint.ensures.count), release-fit c.requires.0 _ _ c.view_of.ensures t)

pub returns : goal.returns
returns c =
    release-does c.requires.0 _ c.requires.1 (took-shares _ _ _ c.in_ok-n.was c.row_footprint.ensures.took) (c.mark.ensures ∙ rw c.view_of.ensures) c.next.ensures

pub returns-in_err-n : goal.returns-in_err-n
returns-in_err-n c =
    does-answer (sym (passed-on _ _ c.from_residual.ensures.1)) (release-stops c.requires.0 _ (took-lacking _ _ _ c.in_err-n.was c.row_footprint.ensures.took))
