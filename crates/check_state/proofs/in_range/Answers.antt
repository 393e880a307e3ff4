use Rattle.check_state.specs.Questions.{in_range}
use mathlib.Core.Path.{refl}
use Rattle.check_state.proofs.in_range.Goals as goal

pub returns : goal.returns
unfolding in_range
returns c = refl
