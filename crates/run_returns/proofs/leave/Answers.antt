use mathlib.Core.Path.{◌≡◌, ◌∙◌}
use Prim.Native.Nat.{◌+◌, ◌-◌}
use Rattle.run_heap.specs.Views.{frame_at}
use Rattle.run_returns.proofs.Returning.{last-saved, end_fits, leave-does}
use Rattle.run_steps.proofs.Doing.{frames-fit, view-readable}
use native.Mathlib.Omega.{arith}
use borrow.Author.Rules.{rules}
use Rattle.run_returns.proofs.leave.Goals as goal

pub x_at-x-requires : goal.x_at-x-requires
x_at-x-requires c =
    omega (arith, c.saved_row-row.ensures.0, (last-saved c.requires.ready c.requires.inner).0, c.requires.ready.represents.tables.rows)

pub mark-requires : goal.mark-requires
mark-requires c =
    ((view-readable c.requires.ready c.view_of.ensures, c.requires.count), rw c.view_of.ensures (end_fits c.requires.ready c.requires.inner _ c.requires.took))

pub returns : goal.returns
returns c =
    let at : frame_at (c.args.c.frames - 2) + 72 ≡ frame_at (c.args.c.frames - 1) = omega (arith, frames-fit c.requires.ready, c.requires.inner) in
    leave-does c.requires.ready c.requires.inner _ _ _ _ _ c.requires.took c.saved_holder-holder.ensures (search rules) c.saved_row-row.ensures.0 c.x_at-x.ensures.0 (c.variable-result.ensures ∙ rw at) (search rules) (c.put_word.ensures ∙ rw (c.mark.ensures, c.view_of.ensures)) c.back_in.ensures
