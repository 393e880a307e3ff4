use mathlib.Core.Path.{◌∙◌}
use Rattle.station.proofs.Bounded.{two-words}
use Rattle.station.proofs.bounds.put_bounds.Goals as goal

pub returns : goal.returns
returns c =
    c.put_word-2.ensures ∙ two-words _ _ _ _ c.requires c.put_word.ensures
