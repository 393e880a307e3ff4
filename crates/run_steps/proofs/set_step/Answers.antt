use mathlib.Core.Path.{sym}
use Rattle.run_steps.proofs.Doing.{does-answer, fits, size, row_small, base-fits, view-readable, set-operands, set-small, set_does, set-stops}
use native.Mathlib.Omega.{arith}
use Rattle.run_heap.proofs.Reading.{answered-ok, answered-err, passed-on}
use borrow.Author.Rules.{rules}
use Rattle.run_steps.proofs.set_step.Goals as goal

pub locate-requires : goal.locate-requires
locate-requires c =
    ((view-readable c.requires.0 c.view_of-v.ensures, (omega arith, omega arith)), set-operands c.requires.0 c.requires.1 _ _ _ c.view_of-v.ensures c.x_at-x.ensures.0 c.member_at-f.ensures.0)

pub variable-n-requires : goal.variable-n-requires
variable-n-requires c =
    (omega (arith, base-fits c.requires.0 c.view_of-v.ensures, size c.requires.0), omega (arith, c.y_at-y.ensures.0, (fits c.requires.0).y))

pub overflow_mul-k : goal.overflow_mul-k
overflow_mul-k c =
    let l = set-small c.requires.0 c.requires.1 _ _ _ c.view_of-v.ensures c.x_at-x.ensures.0 c.member_at-f.ensures.0 _ (answered-ok _ _ c.in_ok-k.was c.locate.ensures) in omega (arith, l, size c.requires.0)

pub overflow_add-k : goal.overflow_add-k
overflow_add-k c =
    let l = set-small c.requires.0 c.requires.1 _ _ _ c.view_of-v.ensures c.x_at-x.ensures.0 c.member_at-f.ensures.0 _ (answered-ok _ _ c.in_ok-k.was c.locate.ensures) in omega (arith, l, size c.requires.0)

pub put_word-requires : goal.put_word-requires
put_word-requires c =
    let l = set-small c.requires.0 c.requires.1 _ _ _ c.view_of-v.ensures c.x_at-x.ensures.0 c.member_at-f.ensures.0 _ (answered-ok _ _ c.in_ok-k.was c.locate.ensures) in omega (arith, l, size c.requires.0)

pub overflow_add-c : goal.overflow_add-c
overflow_add-c c =
    omega (arith, row_small c.requires.0)

pub returns : goal.returns
returns c =
    set_does c.requires.0 c.requires.1 _ _ _ c.view_of-v.ensures c.x_at-x.ensures.0 c.member_at-f.ensures.0 _ _ _ (answered-ok _ _ c.in_ok-k.was c.locate.ensures) c.y_at-y.ensures.0 (search rules) c.variable-n.ensures c.put_word.ensures c.next.ensures

pub returns-in_err-k : goal.returns-in_err-k
returns-in_err-k c =
    does-answer (sym (passed-on _ _ c.from_residual.ensures.1)) (set-stops c.requires.0 c.requires.1 _ _ _ c.view_of-v.ensures c.x_at-x.ensures.0 c.member_at-f.ensures.0 _ (answered-err _ _ c.in_err-k.was c.locate.ensures))
