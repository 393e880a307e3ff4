use Rattle.check_state.proofs.Whole.{whole}
use Prim.Native.Nat.{◌-◌}
use Rattle.check_entailment.proofs.Refusals.{passed-on}
use Rattle.check_formulas.proofs.Atoms.{formula-none, formula-more, start_fits, show-start, show-more, show-refused, show-end}
use mathlib.Core.Path.{◌≡◌}
use native.Mathlib.Omega.{arith}
use Rattle.check_formulas.proofs.show.Goals as goal

pub loop-i-init : goal.loop-i-init
loop-i-init c =
    (start_fits _ _ _ (whole c.args.known.now.sound) c.requires.1, show-start c.args.w.now _ _ _ _ _ c.args.known.now.keys c.args.known.now.bytes _ (whole c.args.known.now.sound) c.requires.1)

pub returns-in_err-show_at : goal.returns-in_err-show_at
returns-in_err-show_at c =
    rw (passed-on _ _ c.from_residual.ensures.1)
    (c.in_err-show_at.ensures.0, show-refused c.args.known.now.keys c.args.known.now.bytes _ _ c.loop-i.left c.loop-i.invariant.1 _ _ (formula-more _ _ _ _ _ _ _ c.loop-i-test.true) c.show_at.new.left _ c.in_err-show_at.ensures.1)

pub loop-i-preserved : goal.loop-i-preserved
loop-i-preserved c =
    (c.in_ok-show_at.ensures.0, show-more c.args.known.now.keys c.args.known.now.bytes _ _ c.loop-i.left c.loop-i.invariant.1 _ _ (formula-more _ _ _ _ _ _ _ c.loop-i-test.true) c.show_at.new.left c.in_ok-show_at.ensures.1)

pub returns : goal.returns
returns c =
    (c.loop-i.invariant.0, show-end c.args.known.now.keys c.args.known.now.bytes _ _ c.loop-i.left c.loop-i.invariant.1 (let e : c.args.n - c.loop-i.i ≡ 0 = omega arith in rw e (formula-none _ _ _ _ _)))
