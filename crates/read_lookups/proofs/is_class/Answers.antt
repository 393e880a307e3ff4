use Rattle.read_lookups.proofs.LookUps.{class-any}
use Rattle.rules.specs.Names.{is_class}
use mathlib.Core.Path.{sym, ◌∙◌}
use Rattle.read_lookups.proofs.is_class.Goals as goal

pub returns : goal.returns
unfolding is_class
returns c = rw (sym c.is_reserved.ensures ∙ c.if-is_reserved.false, class-any, c.class_number.ensures.0)
