use mathlib.Core.Path.{◌≡◌, sym, ap, ◌∙◌}
use mathlib.Core.Option.{some}
use Prim.Native.Nat.{◌-◌}
use Rattle.run_heap.proofs.Reading.{cell-small, found-is, answered-ok, answered-err}
use Rattle.run_heap.proofs.Walking.{found_none}
use Rattle.run_footprint.proofs.Cells.{pass_on, pass-here, pass-end, pass-over}
use native.Mathlib.Omega.{arith}
use Rattle.run_footprint.proofs.chains.passes.Goals as goal

pub loop-i-init : goal.loop-i-init
loop-i-init c =
    let e : c.args.v.objects - 0 ≡ c.args.v.objects = omega arith in rw e

pub returns-in_default : goal.returns-in_default
returns-in_default c =
    sym (pass-end _ _ _ _ _ _ _ c.loop-i-test.true (found_none _ _ _ _ _ (answered-err _ _ c.in_default.is c.cell_of.ensures))) ∙ c.loop-i.invariant

pub returns-then-j-k : goal.returns-then-j-k
returns-then-j-k c =
    sym (pass-here _ _ _ _ _ _ _ c.loop-i-test.true (found-is _ _ _ _ _ (answered-ok _ _ c.in-Ok.is c.cell_of.ensures) ∙ ap some c.if-j-k.true)) ∙ c.loop-i.invariant

pub cell_value-at-requires : goal.cell_value-at-requires
cell_value-at-requires c =
    cell-small _ _ c.requires.0.tables c.requires.0.object (found-is _ _ _ _ _ (answered-ok _ _ c.in-Ok.is c.cell_of.ensures))

pub loop-i-preserved : goal.loop-i-preserved
loop-i-preserved c =
    rw c.cell_value-at.ensures (pass_on _ _ _ _ _ _ _ _ c.loop-i-test.true (found-is _ _ _ _ _ (answered-ok _ _ c.in-Ok.is c.cell_of.ensures)) c.if-j-k.false ∙ c.loop-i.invariant)

pub returns : goal.returns
returns c =
    sym (pass-over _ _ _ _ _ _ _ c.loop-i-test.false) ∙ c.loop-i.invariant
