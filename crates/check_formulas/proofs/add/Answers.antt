use Prim.Native.Nat.{◌-◌}
use Rattle.check_state.proofs.Whole.{whole}
use Rattle.check_entailment.proofs.Refusals.{passed-on}
use Rattle.check_formulas.proofs.Atoms.{formula-none, formula-more, add-more, add-refused, add-end}
use mathlib.Core.Path.{◌≡◌, ◌∙◌}
use native.Mathlib.Omega.{arith}
use Rattle.check_formulas.proofs.add.Goals as goal

pub returns-in_err-add_at : goal.returns-in_err-add_at
returns-in_err-add_at c =
    rw (passed-on _ _ c.from_residual.ensures.1, c.loop-i.invariant)
    (add-refused c.loop-i.known.keys c.loop-i.known.bytes _ _ _ _ _ (formula-more _ _ _ _ _ _ _ c.loop-i-test.true) _ c.in_err-add_at.ensures)

pub loop-i-preserved : goal.loop-i-preserved
loop-i-preserved c =
    c.loop-i.invariant ∙ add-more c.loop-i.known.keys c.loop-i.known.bytes _ _ _ _ _ (formula-more _ _ _ _ _ _ _ c.loop-i-test.true) c.in_ok-add_at.ensures

pub returns : goal.returns
returns c =
    rw c.loop-i.invariant
    (add-end c.loop-i.known.keys c.loop-i.known.bytes _ (whole c.loop-i.known.sound) (let e : c.args.n - c.loop-i.i ≡ 0 = omega arith in rw e (formula-none _ _ _ _ _)))
