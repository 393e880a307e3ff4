use mathlib.Core.Path.{sym}
use Rattle.run_heap.proofs.Reading.{answered-ok, answered-err, passed-on}
use Rattle.run_steps.proofs.Doing.{does-answer, view-readable, shut-operands, shut-stops}
use native.Mathlib.Omega.{arith}
use Rattle.run_steps.proofs.chains.shut_step.Goals as goal

pub locate-requires : goal.locate-requires
locate-requires c =
    ((view-readable c.requires.0 c.view_of-v.ensures, (omega arith, omega arith)), shut-operands c.requires.0 c.requires.1 _ _ c.x_at-x.ensures.0 c.member_at-f.ensures.0)

pub shut_on-requires : goal.shut_on-requires
shut_on-requires c =
    record { ready = c.requires.0; at_shut = c.requires.1; field = c.member_at-f.ensures.0; cell = rw (← c.view_of-v.ensures, ← c.x_at-x.ensures.0) (answered-ok _ _ c.in_ok-k.was c.locate.ensures) }

pub returns : goal.returns
returns c =
    c.shut_on.ensures

pub returns-in_err-k : goal.returns-in_err-k
returns-in_err-k c =
    does-answer (sym (passed-on _ _ c.from_residual.ensures.1)) (shut-stops c.requires.0 c.requires.1 _ _ _ _ c.view_of-v.ensures c.x_at-x.ensures.0 c.member_at-f.ensures.0 (answered-err _ _ c.in_err-k.was c.locate.ensures))
