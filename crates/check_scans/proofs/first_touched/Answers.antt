use Rattle.std.proofs.Common.{◌+◌, ◌*◌, sym, ◌∙◌, arith, ne_eqb}
use Rattle.check_equality.specs.Layout.{left_sides, right_sides}
use Rattle.check_scans.proofs.Scanning.{scanned-more, touches_none}
use Rattle.check_scans.proofs.first_touched.Goals as goal

pub loop-i-preserved : goal.loop-i-preserved
loop-i-preserved g c =
    λ test T.
    scanned-more test _ _ _ (omega arith) (c.loop-i.invariant test T)
    (sym (touches_none test _ _
    (sym (T (left_sides + 2 * c.loop-i.i) _ (omega arith) (omega arith) c.passes.ensures) ∙ c.if-passes.false)
    (sym (T (right_sides + 2 * c.loop-i.i) _ (omega arith) (omega arith) c.passes-else-passes.ensures) ∙ c.if-passes-2.false))
    ∙ ne_eqb _ _ c.if-left-right.false)
