use borrow.Author.Rules.{rules}
use native.Mathlib.Omega.{arith}
use mathlib.Core.Path.{ap, ◌∙◌}
use Rattle.std.specs.Prelude.{Ok}
use Rattle.run_steps.proofs.Doing.{does-answer}
use Rattle.machine.proofs.Running.{going, ready, at-row, goes_on, goes-less, ends-stopped, ends-finished, ends-taken, from-tables}
use Rattle.machine.proofs.run.Goals as goal

pub begin-c-requires : goal.begin-c-requires
begin-c-requires c = c.requires.0

pub loop-c-init : goal.loop-c-init
loop-c-init c = going _ _ _ _ _ c.requires.0 c.begin-c.ensures.0 c.begin-c.ensures.1

pub step-requires : goal.step-requires
step-requires c = (ready c.loop-c.invariant c.loop-c-test.true (search rules), c.requires.1)

pub loop-c-smaller : goal.loop-c-smaller
loop-c-smaller c =
    goes-less c.loop-c.invariant c.loop-c-test.true (does-answer (c.in-Ok-Some.is ∙ ap Ok c.in-Ok-Some.field-0-is) c.step.ensures)

pub loop-c-preserved : goal.loop-c-preserved
loop-c-preserved c =
    goes_on c.loop-c.invariant c.loop-c-test.true (does-answer (c.in-Ok-Some.is ∙ ap Ok c.in-Ok-Some.field-0-is) c.step.ensures)

pub ended-requires-in-Err : goal.ended-requires-in-Err
ended-requires-in-Err c =
    (at-row c.loop-c.invariant).1

pub returns-in-Err : goal.returns-in-Err
returns-in-Err c =
    from-tables c.requires.0 c.begin-c.ensures.1 (ends-stopped c.loop-c.invariant _ _ c.loop-c-test.true (does-answer c.in-Err.is c.step.ensures) c.ended-in-Err.ensures.0.0 c.ended-in-Err.ensures.0.1 c.ended-in-Err.ensures.1)

pub overflow_add-c : goal.overflow_add-c
overflow_add-c c =
    omega (arith, c.loop-c-test.true, c.ranges)

pub ended-requires : goal.ended-requires
ended-requires c =
    (at-row c.loop-c.invariant).1

pub returns-in-Ok-None : goal.returns-in-Ok-None
returns-in-Ok-None c =
    from-tables c.requires.0 c.begin-c.ensures.1 (ends-finished c.loop-c.invariant _ c.loop-c-test.true (does-answer (c.in-Ok-None.is ∙ ap Ok c.in-Ok-None.field-0-is) c.step.ensures) c.ended.ensures.0.0 c.ended.ensures.0.1 c.ended.ensures.1)

pub ended-requires-2 : goal.ended-requires-2
ended-requires-2 c = (at-row c.loop-c.invariant).1

pub returns : goal.returns
returns c =
    from-tables c.requires.0 c.begin-c.ensures.1 (ends-taken c.loop-c.invariant _ c.loop-c-test.false c.ended-2.ensures.0.0 c.ended-2.ensures.0.1 c.ended-2.ensures.1)
