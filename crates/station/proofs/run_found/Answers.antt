use mathlib.Core.Path.{sym, ap, ◌∙◌}
use Rattle.rules.specs.Areas.{result_bytes}
use Rattle.station.specs.Station.{run_numbers}
use Rattle.station.proofs.Texts.{found-nothing, found_none, found-zeros}
use Rattle.station.proofs.run_found.Goals as goal

pub returns-then-is_err : goal.returns-then-is_err
returns-then-is_err c =
    let x = found-zeros _ _ _ (sym c.is_err.ensures.value ∙ c.if-is_err.true) c.requires.2 in
    (c.told.ensures ∙ x.0, c.clear.ensures ∙ x.1, c.told-work)

pub run_tables-requires : goal.run_tables-requires
run_tables-requires c =
    ((c.requires.0 (found-nothing _ (sym c.is_err.ensures.value ∙ c.if-is_err.false)), c.requires.1), c.requires.2)

pub returns : goal.returns
returns c =
    let e = found_none _ (found-nothing _ (sym c.is_err.ensures.value ∙ c.if-is_err.false)) in
    (c.run_tables.ensures.0 ∙ ap run_numbers e, c.run_tables.ensures.1 ∙ ap result_bytes e, c.run_tables.ensures.2)
