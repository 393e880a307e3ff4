use mathlib.Core.Path.{sym}
use Rattle.run_steps.proofs.Doing.{does-answer, fits, size, base-fits, view-readable, let-atom, let-does, let-stops}
use Prim.Native.Nat.{◌<◌}
use native.Mathlib.Omega.{arith}
use Rattle.run_heap.proofs.Reading.{answered-ok, answered-err, passed-on}
use borrow.Author.Rules.{rules}
use Rattle.run_steps.proofs.let_step.Goals as goal

pub right-requires : goal.right-requires
right-requires c =
    (view-readable c.requires.0 c.view_of-v.ensures, rw c.first_atom_at-a.ensures.0 (let-atom c.requires.0 c.requires.1))

pub overflow_add-b : goal.overflow_add-b
overflow_add-b c =
    omega (arith, base-fits c.requires.0 c.view_of-v.ensures, c.x_at-x.ensures.0, (fits c.requires.0).x, size c.requires.0)

pub put_word-requires : goal.put_word-requires
put_word-requires c =
    omega (arith, base-fits c.requires.0 c.view_of-v.ensures, c.x_at-x.ensures.0, (fits c.requires.0).x, size c.requires.0)

pub returns : goal.returns
returns c =
    let n-fits : c.in_ok-n.n < 4294967296 = search rules in
    let-does c.requires.0 c.requires.1 _ _ c.view_of-v.ensures c.first_atom_at-a.ensures.0 _ _ c.x_at-x.ensures.0 n-fits (answered-ok _ _ c.in_ok-n.was c.right.ensures) c.put_word.ensures c.next.ensures

pub returns-in_err-n : goal.returns-in_err-n
returns-in_err-n c =
    does-answer (sym (passed-on _ _ c.from_residual.ensures.1)) (let-stops c.requires.0 c.requires.1 _ _ c.view_of-v.ensures c.first_atom_at-a.ensures.0 _ (answered-err _ _ c.in_err-n.was c.right.ensures))
