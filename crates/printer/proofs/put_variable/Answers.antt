use native.Mathlib.Omega.{arith}
use Rattle.rules.specs.Base.{bytes}
use Rattle.rules.specs.Printed.{printed_line}
use Rattle.printer.proofs.Writes.{writes-on, signed-few}
use Rattle.printer.proofs.put_variable.Goals as goal

pub put-requires : goal.put-requires
put-requires c =
    omega (arith, c.put_word-a.ensures.end, c.put_word-b.ensures.end, c.put-c.ensures.end, c.put_signed-d.ensures.end, c.put_signed-d.ensures.size, c.put-c.ensures.size, c.put_word-b.ensures.size, c.put_word-a.ensures.size, signed-few c.args.v, c.requires)

pub returns : goal.returns
unfolding bytes printed_line
returns c =
    writes-on c.put_word-a.ensures (writes-on c.put_word-b.ensures (writes-on c.put-c.ensures (writes-on c.put_signed-d.ensures c.put.ensures)))
