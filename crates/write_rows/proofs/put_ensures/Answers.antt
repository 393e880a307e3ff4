use Rattle.write_rows.proofs.Puts.{put_then, byte-bytes, half-bytes}
use native.Mathlib.Omega.{arith}
use mathlib.Core.Path.{◌∙◌}
use Rattle.write_rows.specs.Puts.{put_ensures}
use Rattle.write_rows.proofs.put_ensures.Goals as goal

pub returns : goal.returns
unfolding put_ensures
returns c = put_then _ _ _ _ _ (omega arith) (c.put_byte.ensures ∙ byte-bytes _ _ _) (c.put_half.ensures ∙ half-bytes _ _ _)
