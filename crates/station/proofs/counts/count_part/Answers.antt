use mathlib.Core.Path.{◌∙◌}
use native.Mathlib.Omega.{arith}
use Rattle.station.proofs.Parts.{part-wide, zeros-wide, put_back, part-past, part-there}
use Rattle.station.proofs.counts.count_part.Goals as goal

pub returns-then-i-j : goal.returns-then-i-j
returns-then-i-j c =
    put_back c.args.results.now c.args.i c.requires.1 c.requires.0.0 (c.clear.ensures ∙ (zeros-wide c.args.results.now c.args.i c.requires.1 c.requires.0.0 ∙ part-past c.args.j c.args.i c.args.share c.args.text.now c.if-i-j.true))

pub count_script-requires : goal.count_script-requires
count_script-requires c =
    (c.requires.0.1 (omega (arith, c.if-i-j.false)), part-wide c.args.results.now c.args.i c.requires.1 c.requires.0.0)

pub returns : goal.returns
returns c =
    put_back c.args.results.now c.args.i c.requires.1 c.requires.0.0 (c.count_script.ensures ∙ part-there c.args.j c.args.i c.args.share c.args.text.now (omega (arith, c.if-i-j.false)))
