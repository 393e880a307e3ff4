use native.Mathlib.Omega.{arith}
use Rattle.printer.proofs.Writes.{writes-on, writes_as, signed_low, signed_high}
use Rattle.printer.proofs.put_signed.Goals as goal

pub returns-then-v-lt-LEAST : goal.returns-then-v-lt-LEAST
returns-then-v-lt-LEAST c = writes_as c.put_number.ensures (signed_low _ c.if-v-lt-LEAST.true)

pub returns : goal.returns
returns c =
    writes_as (writes-on c.put-e.ensures c.put_number-2.ensures) (signed_high c.args.v _ c.if-v-lt-LEAST.false (omega arith))
