use mathlib.Core.Path.{◌∙◌}
use Rattle.station.proofs.Texts.{fits-as, check-fits}
use Rattle.station.proofs.Calls.{wrong-check, right-check}
use Rattle.station.proofs.check.Goals as goal

-- `station::check` meets its contract. Assumes nothing.
pub pack-requires : goal.pack-requires
pack-requires c = fits-as (c.told-f.ensures ∙ c.check_text.ensures.numbers) (check-fits _)

pub returns-in_default : goal.returns-in_default
returns-in_default c = wrong-check _ _ c.in_default.ensures.cases

pub returns : goal.returns
returns c =
    right-check _ _ c.in-Some.ensures.cases.long _ (c.told-f.ensures ∙ c.check_text.ensures.numbers) c.check_text.ensures.size c.clear.ensures c.pack.ensures
