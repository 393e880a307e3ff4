use Rattle.std.proofs.Common.{rules}
use mathlib.Core.Path.{◌∙◌}
use Rattle.rules.specs.Base.{any}
use Rattle.run_footprint.specs.Footprints.{free_of}
use Rattle.run_footprint.proofs.walks.walk_after.Goals as goal

pub returns-then-n-eq0 : goal.returns-then-n-eq0
unfolding free_of any
returns-then-n-eq0 c = c.walk_strided.ensures ∙ rw c.if-n-eq0.true

pub returns : goal.returns
unfolding free_of
returns c = c.walk_by.ensures (free_of _) (λ k b p. search rules)
