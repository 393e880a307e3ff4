use Rattle.check_inequality.specs.Ways.{either_way}
use mathlib.Core.Path.{refl}
use Rattle.check_inequality.proofs.by_facts.either_way.Goals as goal

pub returns : goal.returns
unfolding either_way
returns c = refl
