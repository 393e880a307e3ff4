use Rattle.read_bytes.proofs.Search.{up_to-here, up_to-on, up_to-end}
use Rattle.read_bytes.specs.Sets.{in_set}
use mathlib.Core.Path.{sym, ◌∙◌}
use native.Mathlib.Omega.{arith}
use Rattle.read_bytes.proofs.find_from.Goals as goal

pub returns-then-in_set : goal.returns-then-in_set
returns-then-in_set c = record { low = omega arith; high = omega arith; is = omega (arith, up_to-here (in_set c.args.set) c.args.l.now c.loop-i.i (omega arith) (sym c.in_set.ensures ∙ c.if-in_set.true)) }

pub loop-i-preserved : goal.loop-i-preserved
loop-i-preserved c = omega (arith, up_to-on (in_set c.args.set) c.args.l.now c.loop-i.i (omega arith) (sym c.in_set.ensures ∙ c.if-in_set.false))

pub returns : goal.returns
returns c = record { low = omega arith; high = omega arith; is = omega (arith, up_to-end (in_set c.args.set) c.args.l.now c.loop-i.i (omega arith)) }
