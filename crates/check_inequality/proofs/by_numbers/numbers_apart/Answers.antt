use Rattle.check_inequality.proofs.Numbers.{apart-law}
use mathlib.Core.Path.{◌∙◌}
use Rattle.check_inequality.proofs.by_numbers.numbers_apart.Goals as goal

pub returns : goal.returns
returns c =
    λ D. c.different_numbers.ensures ∙ apart-law _ _ _ _ _ _ _ c.requires.0 c.told-key c.told-label c.requires.1 c.requires.2 D
