use mathlib.Core.Path.{refl}
use Rattle.small.proofs.Texts.{none-known}
use Rattle.small.proofs.none.Goals as goal

-- `small::none` meets its contract. Assumes nothing.
pub returns : goal.returns
returns c =
    none-known _ refl refl
