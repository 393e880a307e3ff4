use mathlib.Core.Path.{refl}
use Rattle.rules.specs.Areas.{packed}
use Rattle.station.proofs.numbers.pack.Goals as goal

pub returns : goal.returns
unfolding packed
returns c = refl
