use mathlib.Core.Path.{sym, ap, ◌∙◌}
use Rattle.rules.specs.Areas.{bound_bytes}
use Rattle.station.proofs.Texts.{found-nothing}
use Rattle.station.proofs.Bounded.{numbers_of, found_none, found-zeros}
use Rattle.station.proofs.bounds.bound_found.Goals as goal

pub returns-then-is_err : goal.returns-then-is_err
returns-then-is_err c =
    found-zeros _ _ (sym c.is_err.ensures.value ∙ c.if-is_err.true) _ c.requires.1 c.clear.ensures

pub bound_tables-requires : goal.bound_tables-requires
bound_tables-requires c =
    (c.requires.0 (found-nothing _ (sym c.is_err.ensures.value ∙ c.if-is_err.false)), c.requires.1)

pub returns : goal.returns
returns c =
    let e = found_none _ (found-nothing _ (sym c.is_err.ensures.value ∙ c.if-is_err.false)) in
    (c.bound_tables.ensures.0 ∙ ap numbers_of e, c.bound_tables.ensures.1 ∙ ap bound_bytes e)
