use mathlib.Core.Path.{◌∙◌}
use Rattle.station.proofs.Texts.{lean-numbers, lean-bytes}
use Rattle.station.proofs.leans.lean_tables.Goals as goal

pub put_results-requires : goal.put_results-requires
put_results-requires c =
    c.requires.1

pub shape_of-results : goal.shape_of-results
shape_of-results c = c.put_results.auto.results

pub returns : goal.returns
returns c =
    (lean-numbers c.run-r.ensures c.number_of.ensures, c.put_results.ensures ∙ lean-bytes c.run-r.ensures, c.run-r.ensures.tables.size ∙ c.requires.0.0.size)
