use Rattle.std.proofs.Common.{true, sym, ◌∙◌, arith}
use Rattle.run_heap.proofs.Reading.{answered-ok, answered-err}
use Rattle.run_heap.proofs.Walking.{whole-small, whole-free, walk-next, walk-stops}
use Rattle.run_heap.proofs.strides.stride.Goals as goal

pub returns-in_default : goal.returns-in_default
returns-in_default c =
    record { further = c.loop-i.invariant.0; walked = c.loop-i.invariant.1; over = λ _ _. sym c.loop-i.invariant.1 ∙ walk-stops _ _ _ _ _ _ _ _ _ (omega (arith, c.loop-i-test.true)) (whole-free _ _ _ _ ∙ answered-err _ _ c.in_default.is c.whole_by.ensures) }

pub cell_value-y-requires : goal.cell_value-y-requires
cell_value-y-requires c =
    whole-small _ _ _ _ _ c.requires.0.0 (answered-ok _ _ c.in-Ok.is c.whole_by.ensures)

pub returns-then-y-x : goal.returns-then-y-x
returns-then-y-x c =
    record { further = omega arith; walked = rw c.cell_value-y.ensures (walk-next _ _ _ _ _ _ _ _ _ (omega (arith, c.loop-i-test.true)) (whole-free _ _ _ _ ∙ answered-ok _ _ c.in-Ok.is c.whole_by.ensures) ∙ c.loop-i.invariant.1); over = λ _ e. absurd (omega (arith, e, c.loop-i.invariant.0)) }

pub loop-i-preserved : goal.loop-i-preserved
loop-i-preserved c =
    (omega arith, rw (sym c.if-y-x.false ∙ c.cell_value-y.ensures) (walk-next _ _ _ _ _ _ _ _ _ (omega (arith, c.loop-i-test.true)) (whole-free _ _ _ _ ∙ answered-ok _ _ c.in-Ok.is c.whole_by.ensures) ∙ c.loop-i.invariant.1))
