use mathlib.Core.Path.{sym, ap, ◌∙◌}
use borrow.Author.Rules.{rules}
use Rattle.station.specs.Station.{run_numbers}
use Rattle.station.proofs.Texts.{tables-accepted, found-lean, fits-as, lean-fits}
use Rattle.station.proofs.Calls.{fit-lengths, wrong-areas, right-areas}
use Rattle.station.proofs.lean.Goals as goal

pub returns-then-not-fit : goal.returns-then-not-fit
returns-then-not-fit c = wrong-areas _ _ _ (sym c.fit.ensures ∙ c.if-not-fit.true)

pub lean_found-f-requires : goal.lean_found-f-requires
lean_found-f-requires c =
    (λ z. ((c.check_text-found.ensures.taken z).1.tables, tables-accepted c.check_text-found.ensures z), (fit-lengths _ _ (sym c.fit.ensures ∙ c.if-not-fit.false)).1)

pub pack-requires : goal.pack-requires
pack-requires c =
    fits-as (c.lean_found-f.ensures.0 ∙ ap run_numbers (found-lean c.args.steps c.check_text-found.ensures)) (lean-fits _ c.args.steps (search rules))

pub returns-in_default : goal.returns-in_default
returns-in_default c =
    absurd (c.in_default.ensures.cases (fit-lengths _ _ (sym c.fit.ensures ∙ c.if-not-fit.false)).0)

pub returns : goal.returns
returns c =
    right-areas _ _ _ (sym c.fit.ensures ∙ c.if-not-fit.false) (found-lean c.args.steps c.check_text-found.ensures) _ c.lean_found-f.ensures.0 c.lean_found-f.ensures.1 c.lean_found-f.ensures.2 c.clear.ensures c.pack.ensures
