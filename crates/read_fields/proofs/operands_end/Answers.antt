use Rattle.read_fields.proofs.Spans.{walk-done, walk-bad, walk-on}
use mathlib.Core.Path.{sym, subst}
use Rattle.read_fields.specs.Spans.{OperandsRead}
use Rattle.read_fields.proofs.operands_end.Goals as goal

pub returns-in_err-r : goal.returns-in_err-r
returns-in_err-r c = λ os e. subst (OperandsRead os c.args.t.now c.args.from) (sym c.from_residual.ensures) (walk-bad (c.loop-left.invariant.1 os e) c.loop-left-test.true c.in_err-r.ensures)

pub loop-left-preserved : goal.loop-left-preserved
loop-left-preserved c =
    (c.in_ok-r.ensures.end.high, λ os e. walk-on (c.loop-left.invariant.1 os e) c.loop-left-test.true c.in_ok-r.ensures)

pub returns : goal.returns
returns c = λ os e. walk-done (c.loop-left.invariant.1 os e) c.loop-left-test.false
