use mathlib.Core.Path.{◌∙◌}
use native.Mathlib.Omega.{arith}
use Rattle.rules.specs.Joint.{room_of}
use Rattle.station.proofs.Texts.{ran-numbers, ran-bytes}
use Rattle.station.proofs.run_tables.Goals as goal

pub overflow_mul-share : goal.overflow_mul-share
overflow_mul-share c = omega (arith, c.requires.0.1)

pub run-r-requires : goal.run-r-requires
run-r-requires c = (c.requires.0.0, (c.requires.0.1, omega (arith, c.requires.0.1)))

pub put_results-requires : goal.put_results-requires
put_results-requires c =
    c.requires.1

pub shape_of-results : goal.shape_of-results
shape_of-results c = c.put_results.auto.results

pub returns : goal.returns
unfolding room_of
returns c =
    (ran-numbers c.args.share c.run-r.ensures c.number_of.ensures, c.put_results.ensures ∙ ran-bytes c.args.share c.run-r.ensures, c.run-r.ensures.tables.size ∙ c.requires.0.0.size)
