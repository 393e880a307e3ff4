use native.Mathlib.Omega.{arith}
use Prim.Native.Nat.{◌/◌, ◌%◌}
use Rattle.rules.specs.Base.{bytes}
use Rattle.rules.specs.Printed.{printed_line}
use Rattle.printer.proofs.Writes.{writes-on, digits-short}
use Rattle.printer.proofs.put_check.Goals as goal

pub put_tab_number-c-requires : goal.put_tab_number-c-requires
put_tab_number-c-requires c =
    omega (arith, c.put_word-a.ensures.end, c.put_tab_number-b.ensures.end, c.put_tab_number-b.ensures.size, c.put_word-a.ensures.size, digits-short (c.args.checked / 65536), c.requires)

pub put-requires : goal.put-requires
put-requires c =
    omega (arith, c.put_word-a.ensures.end, c.put_tab_number-b.ensures.end, c.put_tab_number-c.ensures.end, c.put_tab_number-c.ensures.size, c.put_tab_number-b.ensures.size, c.put_word-a.ensures.size, digits-short (c.args.checked / 65536), digits-short (c.args.checked % 65536), c.requires)

pub returns : goal.returns
unfolding bytes printed_line
returns c =
    writes-on c.put_word-a.ensures (writes-on c.put_tab_number-b.ensures (writes-on c.put_tab_number-c.ensures c.put.ensures))
