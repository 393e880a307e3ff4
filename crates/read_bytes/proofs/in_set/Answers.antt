use Rattle.read_bytes.proofs.Bytes.{line-end-low, line-end-high}
use mathlib.Core.Path.{sym}
use Rattle.read_bytes.proofs.in_set.Goals as goal

pub returns-then-b-lt-FIRST_GRAPHIC : goal.returns-then-b-lt-FIRST_GRAPHIC
returns-then-b-lt-FIRST_GRAPHIC c = rw c.in-LineEnd.is (sym (line-end-low c.args.b c.if-b-lt-FIRST_GRAPHIC.true))

pub returns-else-b-lt-FIRST_GRAPHIC : goal.returns-else-b-lt-FIRST_GRAPHIC
returns-else-b-lt-FIRST_GRAPHIC c = rw c.in-LineEnd.is (sym (line-end-high c.args.b c.if-b-lt-FIRST_GRAPHIC.false))
