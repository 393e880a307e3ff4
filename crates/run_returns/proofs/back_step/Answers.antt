use mathlib.Core.Path.{ap, ◌∙◌}
use Rattle.std.specs.Prelude.{Ok}
use native.Mathlib.Omega.{arith}
use Rattle.run_steps.proofs.Doing.{size, base-fits}
use Rattle.run_returns.proofs.Resulting.{source_fits, end-ready, size-after, return-goes, return-stops, return-ends}
use borrow.Author.Rules.{rules}
use Rattle.run_returns.proofs.back_step.Goals as goal

pub variable-old-requires : goal.variable-old-requires
variable-old-requires c =
    (omega (arith, base-fits c.requires c.view_of-v.ensures, size c.requires), omega arith)

pub variable-n-requires : goal.variable-n-requires
variable-n-requires c =
    (omega (arith, base-fits c.requires c.view_of-v.ensures, size c.requires), omega (arith, c.source-x.ensures, source_fits c.requires))

pub overflow_add-b : goal.overflow_add-b
overflow_add-b c =
    omega (arith, base-fits c.requires c.view_of-v.ensures)

pub put_word-requires : goal.put_word-requires
put_word-requires c =
    omega (arith, base-fits c.requires c.view_of-v.ensures, size c.requires)

pub end_step-requires : goal.end_step-requires
end_step-requires c =
    end-ready c.requires _ c.view_of-v.ensures _ _ c.source-x.ensures c.variable-n.ensures (search rules) c.put_word.ensures

pub returns-in-Ok-Some : goal.returns-in-Ok-Some
returns-in-Ok-Some c =
    return-goes c.requires _ c.view_of-v.ensures _ _ c.source-x.ensures c.variable-n.ensures (search rules) c.put_word.ensures c.end_step.ensures _ (c.in-Ok-Some.is ∙ ap Ok c.in-Ok-Some.field-0-is)

pub overflow_add-b-in-Ok-None : goal.overflow_add-b-in-Ok-None
overflow_add-b-in-Ok-None c =
    omega (arith, base-fits c.requires c.view_of-v.ensures)

pub put_word-requires-in-Ok-None : goal.put_word-requires-in-Ok-None
put_word-requires-in-Ok-None c =
    omega (arith, base-fits c.requires c.view_of-v.ensures, size-after c.requires _ c.view_of-v.ensures _ _ c.source-x.ensures c.variable-n.ensures (search rules) c.put_word.ensures c.end_step.ensures)

pub overflow_add-b-in-Err : goal.overflow_add-b-in-Err
overflow_add-b-in-Err c =
    omega (arith, base-fits c.requires c.view_of-v.ensures)

pub put_word-requires-in-Err : goal.put_word-requires-in-Err
put_word-requires-in-Err c =
    omega (arith, base-fits c.requires c.view_of-v.ensures, size-after c.requires _ c.view_of-v.ensures _ _ c.source-x.ensures c.variable-n.ensures (search rules) c.put_word.ensures c.end_step.ensures)

pub returns-in-Ok-None : goal.returns-in-Ok-None
returns-in-Ok-None c =
    return-ends c.requires _ c.view_of-v.ensures _ _ c.source-x.ensures c.variable-n.ensures (search rules) c.put_word.ensures c.end_step.ensures _ c.variable-old.ensures (search rules) c.put_word-in-Ok-None.ensures (c.in-Ok-None.is ∙ ap Ok c.in-Ok-None.field-0-is)

pub returns-in-Err : goal.returns-in-Err
returns-in-Err c =
    return-stops c.requires _ c.view_of-v.ensures _ _ c.source-x.ensures c.variable-n.ensures (search rules) c.put_word.ensures c.end_step.ensures _ c.variable-old.ensures (search rules) c.put_word-in-Err.ensures _ c.in-Err.is
