use mathlib.Core.Bool.{false}
use Rattle.star_reader.proofs.class_names.Goals as goal

pub returns : goal.returns
returns c = λ j. record { classes = c.byte_at.ensures.0 j; fields = 0; methods = 0; method = false; locals = 0; result = false }
