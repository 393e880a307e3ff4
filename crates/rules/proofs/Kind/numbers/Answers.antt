use mathlib.Core.Path.{refl}
use Rattle.rules.specs.Grammar.{kind_number, statement_number}
use Rattle.rules.proofs.Kind.numbers.Goals as goal

pub returns : goal.returns
unfolding kind_number statement_number
returns c = refl
