use Rattle.write_rows.proofs.Puts.{put_then}
use native.Mathlib.Omega.{arith}
use Rattle.write_rows.specs.Puts.{put_method, bytes_of_method}
use Rattle.write_rows.proofs.put_method_row.Goals as goal

pub returns : goal.returns
unfolding put_method bytes_of_method
returns c = put_then _ _ _ _ _ (omega arith) c.put_four.ensures c.put_four-2.ensures
