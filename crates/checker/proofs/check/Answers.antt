use Rattle.checker.specs.Checked.{verdict_of}
use Rattle.checker.proofs.Blocks.{passed-on, methods-all, method-accepted, method-stops, main-last}
use mathlib.Core.Path.{sym, ap, ◌∙◌, refl}
use native.Mathlib.Omega.{arith}
use Rattle.checker.proofs.check.Goals as goal

pub loop-m-init : goal.loop-m-init
loop-m-init c = methods-all _ _ refl

pub returns-in_err-check_method : goal.returns-in_err-check_method
returns-in_err-check_method c =
    ap verdict_of (passed-on _ _ c.from_residual.ensures.1) ∙ method-stops _ _ _ (omega (arith, c.method_count-m-end.ensures.0, c.loop-m-test.true)) _ c.check_method.ensures _ c.in_err-check_method.was ∙ sym c.loop-m.invariant

pub loop-m-preserved : goal.loop-m-preserved
loop-m-preserved c =
    c.loop-m.invariant ∙ method-accepted _ _ _ (omega (arith, c.method_count-m-end.ensures.0, c.loop-m-test.true)) _ c.check_method.ensures _ c.in_ok-check_method.was

pub returns : goal.returns
returns c = c.check_main.ensures ∙ main-last _ _ _ (omega arith) ∙ sym c.loop-m.invariant
