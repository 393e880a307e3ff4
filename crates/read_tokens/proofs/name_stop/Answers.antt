use Rattle.read_bytes.proofs.Bytewise.{skipped, stopped, no-marks}
use Rattle.read_bytes.specs.declared.Set.TheVariants.{NotLetterOrDigit}
use lib.Count.{trailing_le}
use mathlib.Core.Path.{◌∙◌}
use native.Mathlib.Omega.{arith}
use Rattle.read_tokens.proofs.name_stop.Goals as goal

pub returns-then-z-ne0 : goal.returns-then-z-ne0
returns-then-z-ne0 c =
    let e =
    stopped c.args.l.now c.loop-stop.stop (omega arith) (λ k. omega (arith, c.type_inv.l k))
    c.word8.result c.name_marks-z.result c.word8.ensures c.name_marks-z.ensures c.if-z-ne0.true (omega arith) in
    let h = trailing_le 64 c.name_marks-z.result in
    record { low = omega arith; high = omega arith; is = omega (arith, e, c.loop-stop.invariant.2) }

pub loop-stop-preserved : goal.loop-stop-preserved
loop-stop-preserved c =
    let e =
    skipped c.args.l.now c.loop-stop.stop (omega arith) (λ k. omega (arith, c.type_inv.l k)) NotLetterOrDigit 8
    c.word8.result c.name_marks-z.result c.word8.ensures c.name_marks-z.ensures (omega arith)
    (no-marks 8 c.name_marks-z.result c.if-z-ne0.false) in
    (omega arith, omega arith, e ∙ c.loop-stop.invariant.2)
