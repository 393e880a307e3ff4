use mathlib.Core.Path.{sym, ap, ◌∙◌}
use borrow.Author.Rules.{rules}
use Rattle.station.specs.Station.{run_numbers}
use Rattle.station.proofs.Texts.{found-tried, fits-as, trial-fits}
use Rattle.station.proofs.Calls.{fit-lengths, wrong-areas, right-areas}
use Rattle.station.proofs.trial.Goals as goal

pub returns-then-not-fit : goal.returns-then-not-fit
returns-then-not-fit c = wrong-areas _ _ _ (sym c.fit.ensures ∙ c.if-not-fit.true)

pub run_found-f-requires : goal.run_found-f-requires
run_found-f-requires c =
    (λ z. (c.read_text-found.ensures.taken z).1.tables, search rules, (fit-lengths _ _ (sym c.fit.ensures ∙ c.if-not-fit.false)).1)

pub pack-requires : goal.pack-requires
pack-requires c =
    fits-as (c.run_found-f.ensures.0 ∙ ap run_numbers (found-tried c.args.steps c.read_text-found.ensures)) (trial-fits _ c.args.steps (search rules))

pub returns-in_default : goal.returns-in_default
returns-in_default c =
    absurd (c.in_default.ensures.cases (fit-lengths _ _ (sym c.fit.ensures ∙ c.if-not-fit.false)).0)

pub returns : goal.returns
returns c =
    right-areas _ _ _ (sym c.fit.ensures ∙ c.if-not-fit.false) (found-tried c.args.steps c.read_text-found.ensures) _ c.run_found-f.ensures.0 c.run_found-f.ensures.1 c.run_found-f.ensures.2 c.clear.ensures c.pack.ensures
