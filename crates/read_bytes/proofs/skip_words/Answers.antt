use Rattle.read_bytes.proofs.Bytewise.{skipped, trailing_zeros, no-marks}
use lib.Count.{trailing_le}
use mathlib.Core.Path.{◌∙◌}
use native.Mathlib.Omega.{arith}
use Rattle.read_bytes.proofs.skip_words.Goals as goal

pub returns-then-z-ne0 : goal.returns-then-z-ne0
returns-then-z-ne0 c =
    let h = trailing_le 64 c.marks-z.result in (omega arith, omega arith, skipped c.args.l.now c.loop-i.i (omega arith) (λ k. omega (arith, c.type_inv.l k)) c.args.set _ c.word8.result c.marks-z.result c.word8.ensures c.marks-z.ensures (omega arith) (trailing_zeros c.marks-z.result) ∙ c.loop-i.invariant.2)

pub loop-i-preserved : goal.loop-i-preserved
loop-i-preserved c =
    (omega arith, omega arith, skipped c.args.l.now c.loop-i.i (omega arith) (λ k. omega (arith, c.type_inv.l k)) c.args.set 8 c.word8.result c.marks-z.result c.word8.ensures c.marks-z.ensures (omega arith) (no-marks 8 c.marks-z.result c.if-z-ne0.false) ∙ c.loop-i.invariant.2)
