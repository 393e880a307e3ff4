use mathlib.Core.Path.{sym, ap, ◌∙◌}
use mathlib.Core.List.{List}
use Prim.Native.Nat.{ℕ}
use native.Mathlib.Omega.{arith}
use lib.ListN.{length}
use Rattle.targets.specs.Targets.{stack_of}
use Rattle.targets.proofs.Stacks.{targets-on, targets-end, work-after-length, work-none, open-none}
use Rattle.targets.proofs.set_targets.Goals as goal
use Rattle.targets.proofs.set_targets.Goals.{in-Ok, in_default}

pub loop-i-preserved : goal.loop-i-preserved
loop-i-preserved c =
    let st : List ℕ = stack_of c.loop-i.o.depth c.loop-i.o.rows in
    let on = targets-on c.loop-i.work c.loop-i.i c.args.n st (omega arith) in
    elim c.match-try_from.branch [
      | in-Ok w ↦ (
        ap length (w.work-is ∙ w.work_after.ensures) ∙ (work-after-length c.loop-i.work _ c.loop-i.i st ∙ c.loop-i.invariant.0),
        rw w.o-is w.open_after-o.ensures.1,
        cc (on, w.work-is, w.o-is, w.work_after.ensures, w.open_after-o.ensures.0, w.in-Ok.ensures, c.kind_at.ensures, c.loop-i.invariant.2),
      )
      | in_default w ↦ (
        ap length w.work-is ∙ c.loop-i.invariant.0,
        rw w.o-is c.loop-i.invariant.1,
        cc (on, work-none _ c.loop-i.i st w.in_default.ensures c.loop-i.work, open-none _ c.loop-i.i st w.in_default.ensures, w.work-is, w.o-is, c.kind_at.ensures, c.loop-i.invariant.2),
      )
    ]

pub returns : goal.returns
returns c = sym (targets-end _ _ c.args.n _ (omega arith)) ∙ c.loop-i.invariant.2
