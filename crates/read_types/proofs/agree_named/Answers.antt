use Rattle.read_names.proofs.Searches.{name-comm}
use Rattle.read_types.specs.Types.{type_meant}
use Rattle.rules.specs.Base.{is}
use Rattle.rules.specs.Names.{agree}
use mathlib.Core.Path.{◌∙◌}
use Rattle.read_types.proofs.agree_named.Goals as goal

pub returns-in-Int : goal.returns-in-Int
unfolding agree type_meant is
returns-in-Int c = rw c.in-Int.is (c.is_int-in-Int.ensures ∙ name-comm _ _)
