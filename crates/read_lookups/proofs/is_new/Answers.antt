use Rattle.read_lookups.proofs.LookUps.{new-among}
use Rattle.read_lookups.specs.LookUps.{is_new}
use mathlib.Core.Path.{sym, ◌∙◌}
use Rattle.read_lookups.proofs.is_new.Goals as goal

pub returns : goal.returns
unfolding is_new
returns c = rw (sym c.is_reserved.ensures ∙ c.if-is_reserved.false) (new-among _ _ _ _ _ _ c.find.ensures.0 c.find.ensures.1)
