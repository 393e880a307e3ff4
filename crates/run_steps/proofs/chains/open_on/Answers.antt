use mathlib.Core.Path.{refl, sym}
use Rattle.run_heap.proofs.Reading.{answered-ok, answered-err, passed-on}
use Rattle.run_steps.proofs.Doing.{does-answer, fits, size, frames-fit, base-fits, row_small, view-readable, open-operands, open-small, open-does, open-walk-stops}
use native.Mathlib.Omega.{arith}
use borrow.Author.Rules.{rules}
use Rattle.run_steps.proofs.chains.open_on.Goals as goal

pub view_of-v-requires : goal.view_of-v-requires
view_of-v-requires c =
    frames-fit c.requires.ready

pub cell_value-n-requires : goal.cell_value-n-requires
cell_value-n-requires c =
    open-small c.requires

pub walk-requires : goal.walk-requires
walk-requires c =
    (view-readable c.requires.ready c.view_of-v.ensures, (open-operands c.requires.ready c.requires.at_open _ c.view_of-v.ensures _ _ refl c.requires.field).1)

pub x_at-y-requires : goal.x_at-y-requires
x_at-y-requires c =
    row_small c.requires.ready

pub overflow_add-b : goal.overflow_add-b
overflow_add-b c =
    omega (arith, base-fits c.requires.ready c.view_of-v.ensures, c.x_at-y.ensures.0, (fits c.requires.ready).x, size c.requires.ready)

pub put_word-requires : goal.put_word-requires
put_word-requires c =
    omega (arith, base-fits c.requires.ready c.view_of-v.ensures, c.x_at-y.ensures.0, (fits c.requires.ready).x, size c.requires.ready)

pub overflow_add-c : goal.overflow_add-c
overflow_add-c c =
    omega (arith, row_small c.requires.ready)

pub next-requires : goal.next-requires
next-requires c =
    c.requires.ready.more

pub returns : goal.returns
returns c =
    open-does c.requires _ _ c.view_of-v.ensures c.cell_value-n.ensures _ _ c.x_at-y.ensures.0 (search rules) (answered-ok _ _ c.in_ok-walk.was c.walk.ensures) c.put_word.ensures c.next.ensures

pub returns-in_err-walk : goal.returns-in_err-walk
returns-in_err-walk c =
    does-answer (sym (passed-on _ _ c.from_residual.ensures.1)) (open-walk-stops c.requires _ _ c.view_of-v.ensures c.cell_value-n.ensures _ (answered-err _ _ c.in_err-walk.was c.walk.ensures))
