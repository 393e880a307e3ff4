use Rattle.write_rows.proofs.Puts.{put_then, byte-bytes, half-bytes}
use native.Mathlib.Omega.{arith}
use mathlib.Core.Path.{◌∙◌}
use Rattle.write_rows.specs.Puts.{put_requires}
use Rattle.write_rows.proofs.put_requires.Goals as goal

pub returns : goal.returns
unfolding put_requires
returns c = put_then _ _ _ _ _ (omega arith) (c.put_half.ensures ∙ half-bytes _ _ _) (c.put_byte.ensures ∙ byte-bytes _ _ _)
