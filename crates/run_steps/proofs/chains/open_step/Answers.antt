use mathlib.Core.Path.{sym}
use Rattle.run_heap.proofs.Reading.{answered-ok, answered-err, passed-on}
use Rattle.run_steps.proofs.Doing.{does-answer, view-readable, open-operands, open-stops}
use native.Mathlib.Omega.{arith}
use Rattle.run_steps.proofs.chains.open_step.Goals as goal

pub locate-requires : goal.locate-requires
locate-requires c =
    ((view-readable c.requires.0 c.view_of-v.ensures, (omega arith, omega arith)), open-operands c.requires.0 c.requires.1 _ c.view_of-v.ensures _ _ c.y_at-x.ensures.0 c.member_at-f.ensures.0)

pub open_on-requires : goal.open_on-requires
open_on-requires c =
    record { ready = c.requires.0; at_open = c.requires.1; field = c.member_at-f.ensures.0; cell = rw (← c.view_of-v.ensures, ← c.y_at-x.ensures.0) (answered-ok _ _ c.in_ok-k.was c.locate.ensures) }

pub returns : goal.returns
returns c =
    c.open_on.ensures

pub returns-in_err-k : goal.returns-in_err-k
returns-in_err-k c =
    does-answer (sym (passed-on _ _ c.from_residual.ensures.1)) (open-stops c.requires.0 c.requires.1 _ c.view_of-v.ensures _ _ _ c.y_at-x.ensures.0 c.member_at-f.ensures.0 (answered-err _ _ c.in_err-k.was c.locate.ensures))
