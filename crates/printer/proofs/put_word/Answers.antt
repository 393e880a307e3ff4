use native.Mathlib.Omega.{arith}
use Rattle.printer.proofs.Writes.{writes-all}
use Rattle.printer.proofs.put_word.Goals as goal

-- `printer::put_word` meets its contract. Assumes nothing.
pub returns : goal.returns
returns c = rw c.copy_from_slice.ensures.after (writes-all _ _ _ _ (omega arith) c.requires)
