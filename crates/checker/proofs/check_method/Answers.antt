use Rattle.checker.proofs.Blocks.{passed-on, method-refused, method-done}
use mathlib.Core.Path.{ap, ◌∙◌}
use Rattle.checker.specs.Checked.{verdict_of}
use Rattle.checker.proofs.check_method.Goals as goal

pub returns-in_err-on_line : goal.returns-in_err-on_line
returns-in_err-on_line c =
    ap verdict_of (passed-on _ _ c.from_residual.ensures.1) ∙ method-refused c.args.w.now c.args.m c.requires_first-a.result c.requires_count-n.result 0 0 0 c.requires_first-a.ensures.0
    c.requires_count-n.ensures.0 _ c.forget_all.ensures.same c.add-k.result _ _ c.add-k.ensures _ c.in_err-on_line.ensures

pub returns : goal.returns
returns c =
    c.check_block.ensures ∙ method-done c.args.w.now c.args.m c.requires_first-a.result c.requires_count-n.result _ _ _
    c.requires_first-a.ensures.0 c.requires_count-n.ensures.0 _ c.forget_all.ensures.same c.add-k.result _ _
    c.add-k.ensures _ c.in_ok-on_line.ensures c.ensures_first-c.ensures.0 c.ensures_count-o.ensures.0 c.first_row_at.ensures.0
