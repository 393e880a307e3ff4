use mathlib.Core.Path.{sym, ap, ◌∙◌}
use Rattle.station.proofs.Bounded.{numbers_of, found-bound, bound-fits}
use Rattle.station.proofs.Calls.{fit-lengths, wrong-bound, right-bound}
use Rattle.station.proofs.bound.Goals as goal

pub returns-then-not-fit : goal.returns-then-not-fit
returns-then-not-fit c = wrong-bound _ _ _ (sym c.fit.ensures ∙ c.if-not-fit.true)

pub bound_found-requires : goal.bound_found-requires
bound_found-requires c =
    (λ z. (c.check_text-found.ensures.taken z).1.tables, (fit-lengths _ _ (sym c.fit.ensures ∙ c.if-not-fit.false)).1)

pub pack-requires : goal.pack-requires
pack-requires c =
    bound-fits _ _ (c.told-f.ensures ∙ (c.bound_found.ensures.0 ∙ ap numbers_of (found-bound _ c.check_text-found.ensures)))

pub returns-in_default : goal.returns-in_default
returns-in_default c =
    absurd (c.in_default.ensures.cases (fit-lengths _ _ (sym c.fit.ensures ∙ c.if-not-fit.false)).0)

pub returns : goal.returns
returns c =
    right-bound _ _ _ (sym c.fit.ensures ∙ c.if-not-fit.false) (found-bound _ c.check_text-found.ensures) _ (c.told-f.ensures ∙ c.bound_found.ensures.0) c.bound_found.ensures.1 c.check_text-found.ensures.size c.clear.ensures c.pack.ensures
