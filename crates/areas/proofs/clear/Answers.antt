use Rattle.rules.specs.Areas.{cleared}
use Rattle.areas.proofs.clear.Goals as goal

-- `areas::clear` meets its contract. Assumes nothing.
pub returns : goal.returns
unfolding cleared
returns c = c.fill.ensures.after (λ y e. e)
