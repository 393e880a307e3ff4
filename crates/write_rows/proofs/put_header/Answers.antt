use Rattle.write_rows.proofs.Puts.{put_then}
use native.Mathlib.Omega.{arith}
use Rattle.write_rows.specs.Puts.{put_header, header_bytes}
use Rattle.write_rows.proofs.put_header.Goals as goal

pub returns : goal.returns
unfolding put_header header_bytes
returns c = put_then _ 0 _ _ 4 (omega arith) c.put_four.ensures c.put_four-2.ensures
