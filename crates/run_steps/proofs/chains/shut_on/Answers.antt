use mathlib.Core.Path.{refl, sym}
use Rattle.run_heap.proofs.Reading.{answered-ok, answered-err, passed-on}
use Rattle.run_steps.proofs.Doing.{does-answer, frames-fit, view-readable, shut-operands, shut-small, shut-walked, shut-walk-stops}
use Rattle.run_steps.proofs.chains.shut_on.Goals as goal

pub view_of-v-requires : goal.view_of-v-requires
view_of-v-requires c =
    frames-fit c.requires.ready

pub cell_value-requires : goal.cell_value-requires
cell_value-requires c =
    shut-small c.requires

pub walk-requires : goal.walk-requires
walk-requires c =
    (view-readable c.requires.ready c.view_of-v.ensures, (shut-operands c.requires.ready c.requires.at_shut _ _ refl c.requires.field).1)

pub shut_whole-requires : goal.shut_whole-requires
shut_whole-requires c =
    shut-walked c.requires _ _ c.view_of-v.ensures c.cell_value.ensures _ (answered-ok _ _ c.in_ok-walk.was c.walk.ensures)

pub returns : goal.returns
returns c =
    c.shut_whole.ensures

pub returns-in_err-walk : goal.returns-in_err-walk
returns-in_err-walk c =
    does-answer (sym (passed-on _ _ c.from_residual.ensures.1)) (shut-walk-stops c.requires _ _ c.view_of-v.ensures c.cell_value.ensures _ (answered-err _ _ c.in_err-walk.was c.walk.ensures))
