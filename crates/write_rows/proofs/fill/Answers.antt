use mathlib.Core.Path.{sym, ◌∙◌}
use lib.ListN.{length-set}
use Rattle.write_rows.proofs.Puts.{blank-next, blank-end}
use Rattle.write_rows.proofs.fill.Goals as goal

pub loop-i-preserved : goal.loop-i-preserved
loop-i-preserved c = (simp length-set c.loop-i.invariant.0, blank-next _ _ _ _ c.loop-i-test.true ∙ c.loop-i.invariant.1)

pub returns : goal.returns
returns c = sym (blank-end _ _ _ _ c.loop-i-test.false) ∙ c.loop-i.invariant.1
