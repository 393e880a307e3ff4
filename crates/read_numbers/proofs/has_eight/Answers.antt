use Rattle.read_bytes.proofs.Bytewise.{eight-clear}
use borrow.Author.Tests.{eqb-true}
use native.Mathlib.Omega.{arith}
use Rattle.read_numbers.proofs.has_eight.Goals as goal

pub returns : goal.returns
returns c =
    λ e. (omega arith, eight-clear c.args.l.now c.args.at (omega arith) (λ k. omega (arith, c.type_inv.l k)) c.word8.result c.digit_marks.result c.word8.ensures c.digit_marks.ensures (eqb-true _ 0 e))
