use mathlib.Core.Path.{sym}
use native.Mathlib.Omega.{arith}
use lib.Seq.{length-take-le}
use Rattle.printer.proofs.Writes.{writes-on, writes_as}
use Rattle.small.proofs.Texts.{line-is, line-length}
use Rattle.small.proofs.put_line.Goals as goal

pub slice_bounds-put_word-end : goal.slice_bounds-put_word-end
slice_bounds-put_word-end c =
    sym (length-take-le _ _ (omega (arith, c.requires.0.few, c.requires.0.size)))

pub put_word-e-requires : goal.put_word-e-requires
put_word-e-requires c =
    omega (arith, line-length c.requires.0, c.requires.1)

pub put-requires : goal.put-requires
put-requires c =
    omega (arith, line-length c.requires.0, c.requires.1, c.put_word-e.ensures.end, c.put_word-e.ensures.size)

pub returns : goal.returns
returns c =
    writes_as (writes-on c.put_word-e.ensures c.put.ensures) (line-is c.requires.0)
