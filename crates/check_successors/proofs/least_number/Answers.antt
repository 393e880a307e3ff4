use Rattle.check_state.proofs.Whole.{whole}
use native.Mathlib.Omega.{arith}
use native.Mathlib.Numerals.{add-one}
use mathlib.Core.Path.{◌≡◌, sym, ap, ◌∙◌}
use Rattle.rules.proofs.Rising.{first-rising}
use Rattle.check_successors.specs.Successors.{number_or}
use Rattle.check_successors.proofs.Least.{none_before, slot-on}
use Rattle.check_successors.proofs.least_number.Goals as goal

pub loop-i-init : goal.loop-i-init
loop-i-init c = (
  tt,
  λ fs D. none_before D (omega (arith, (whole c.args.known.now.sound).linked.fit)) _ _ _ (omega (arith, c.first_number-i.ensures.within, c.requires.1)) c.requires.0 c.first_number-i.ensures.before _ (omega arith),
)

pub loop-i-preserved : goal.loop-i-preserved
loop-i-preserved c = (
  c.number_step-best.ensures.1,
  λ fs D.
      rw add-one
      (ap number_or c.number_step-best.ensures.0
      ∙ slot-on D (omega (arith, (whole c.args.known.now.sound).linked.fit)) c.loop-i.i c.args.t c.args.a c.loop-i.best
      (omega (arith, c.requires.1)) c.requires.0 (c.loop-i.invariant.1 fs D)),
)

pub returns : goal.returns
returns c = (
  c.loop-i.invariant.0,
  λ fs D. let e : c.loop-i.i ≡ c.args.n = omega (arith, c.first_number-i.ensures.within) in rw e at (c.loop-i.invariant.1 fs D ∙ sym (first-rising _ _)),
)
