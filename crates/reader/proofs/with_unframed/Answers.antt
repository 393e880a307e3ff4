use mathlib.Core.Path.{refl}
use Rattle.reader.specs.Readings.{with_unframed}
use Rattle.reader.proofs.with_unframed.Goals as goal

-- `reader::with_unframed` meets its contract. Assumes nothing.
pub returns : goal.returns
unfolding with_unframed
returns c = refl
