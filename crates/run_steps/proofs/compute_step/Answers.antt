use Rattle.run_steps.proofs.Doing.{does-answer, fits, size, row_small, base-fits, compute-does, compute-stops}
use mathlib.Core.Path.{sym, ap, ◌∙◌}
use Rattle.std.specs.Prelude.{Err}
use Rattle.run_heap.specs.declared.Fault.{Fault}
use Prim.Native.Nat.{◌<◌}
use native.Mathlib.Omega.{arith}
use Rattle.run_heap.proofs.Reading.{passed-on}
use Rattle.run_numbers.proofs.Computing.{has_value, has-none, value_asked, none-asked}
use borrow.Author.Rules.{rules}
use Rattle.run_steps.proofs.compute_step.Goals as goal

pub variable-y-requires : goal.variable-y-requires
variable-y-requires c =
    (omega (arith, base-fits c.requires.0 c.view_of-v.ensures, size c.requires.0), omega (arith, c.y_at.ensures.0, (fits c.requires.0).y))

pub variable-z-requires : goal.variable-z-requires
variable-z-requires c =
    (omega (arith, base-fits c.requires.0 c.view_of-v.ensures, size c.requires.0), omega (arith, c.z_at.ensures.0, (fits c.requires.0).z))

pub overflow_add-b : goal.overflow_add-b
overflow_add-b c =
    omega (arith, base-fits c.requires.0 c.view_of-v.ensures, c.x_at-x.ensures.0, (fits c.requires.0).x, size c.requires.0)

pub put_word-requires : goal.put_word-requires
put_word-requires c =
    omega (arith, base-fits c.requires.0 c.view_of-v.ensures, c.x_at-x.ensures.0, (fits c.requires.0).x, size c.requires.0)

pub overflow_add-c : goal.overflow_add-c
overflow_add-c c = omega (arith, row_small c.requires.0)

pub next-requires : goal.next-requires
next-requires c = c.requires.0.more

pub returns : goal.returns
returns c =
    let n-fits : c.in_ok-n.n < 4294967296 = search rules in
    compute-does c.requires.0 c.requires.1 _ c.view_of-v.ensures _ _ _ _ _ c.y_at.ensures.0 c.z_at.ensures.0 c.kind_at.ensures c.variable-y.ensures c.variable-z.ensures
    _ _ c.x_at-x.ensures.0 n-fits (has_value _ c.compute.ensures _ (value_asked Fault.Overflow _ _ (sym c.ok_or.ensures.value ∙ c.in_ok-n.was))) c.put_word.ensures c.next.ensures

pub returns-in_err-n : goal.returns-in_err-n
returns-in_err-n c =
    let (none, f) = none-asked Fault.Overflow c.compute.result _ (sym c.ok_or.ensures.value ∙ c.in_err-n.was) in
    does-answer (sym (passed-on _ _ c.from_residual.ensures.1 ∙ ap Err f))
    (compute-stops c.requires.0 c.requires.1 _ c.view_of-v.ensures _ _ _ _ _ c.y_at.ensures.0 c.z_at.ensures.0 c.kind_at.ensures c.variable-y.ensures c.variable-z.ensures
    (has-none _ c.compute.ensures none))
