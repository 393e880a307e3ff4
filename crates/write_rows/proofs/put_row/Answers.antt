use Rattle.write_rows.proofs.Puts.{put_then}
use native.Mathlib.Omega.{arith}
use Rattle.write_rows.specs.Puts.{put_row, bytes_of_row}
use Rattle.write_rows.proofs.put_row.Goals as goal

pub returns : goal.returns
unfolding put_row bytes_of_row
returns c =
    put_then _ _ _ _ _ (omega arith) (put_then _ _ _ _ _ (omega arith) c.put_four.ensures c.put_four-2.ensures) c.put_four-3.ensures
