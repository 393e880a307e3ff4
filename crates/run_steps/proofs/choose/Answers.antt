use Rattle.run_steps.proofs.Doing.{does-answer, view-readable, if-holds, if-fails, if-stops}
use mathlib.Core.Path.{ap, ◌∙◌, sym}
use Rattle.std.specs.Prelude.{Ok}
use Rattle.run_heap.proofs.Reading.{answered-ok, answered-err, passed-on}
use Rattle.run_steps.proofs.choose.Goals as goal

pub condition-requires : goal.condition-requires
condition-requires c =
    (view-readable c.requires.0 c.view_of.ensures, c.requires.2)

pub returns-then-holds : goal.returns-then-holds
returns-then-holds c =
    if-holds c.requires.0 c.requires.1 _ _ c.requires.2 c.view_of.ensures (answered-ok _ _ (c.in_ok-holds.was ∙ ap Ok c.if-holds.true) c.condition.ensures) c.next.ensures

pub returns : goal.returns
returns c =
    if-fails c.requires.0 c.requires.1 _ _ c.requires.2 c.view_of.ensures (answered-ok _ _ (c.in_ok-holds.was ∙ ap Ok c.if-holds.false) c.condition.ensures) (c.next-2.ensures ∙ rw c.target_at.ensures.0)

pub returns-in_err-holds : goal.returns-in_err-holds
returns-in_err-holds c =
    does-answer (sym (passed-on _ _ c.from_residual.ensures.1)) (if-stops c.requires.0 c.requires.1 _ _ c.requires.2 c.view_of.ensures _ (answered-err _ _ c.in_err-holds.was c.condition.ensures))
