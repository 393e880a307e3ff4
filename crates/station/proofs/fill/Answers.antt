use mathlib.Core.Path.{sym, ◌∙◌}
use Rattle.station.proofs.Calls.{fit-lengths, wrong-fill, right-fill}
use Rattle.station.proofs.Filling.{fill-fits}
use Rattle.station.proofs.fill.Goals as goal

pub returns-then-not-fit : goal.returns-then-not-fit
returns-then-not-fit c = wrong-fill _ _ _ (sym c.fit.ensures ∙ c.if-not-fit.true)

pub fill_text-requires : goal.fill_text-requires
fill_text-requires c =
    (fit-lengths _ _ (sym c.fit.ensures ∙ c.if-not-fit.false)).1

pub pack-requires : goal.pack-requires
pack-requires c =
    fill-fits _ _ (c.told-f.ensures ∙ c.fill_text.ensures.0)

pub returns-in_default : goal.returns-in_default
returns-in_default c =
    absurd (c.in_default.ensures.cases (fit-lengths _ _ (sym c.fit.ensures ∙ c.if-not-fit.false)).0)

pub returns : goal.returns
returns c =
    right-fill _ _ _ (sym c.fit.ensures ∙ c.if-not-fit.false) _ _ c.fill_text.ensures c.told-f.ensures c.fill_text.array_long c.clear.ensures c.pack.ensures
