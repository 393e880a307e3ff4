use mathlib.Core.Path.{◌∙◌}
use Rattle.run_returns.proofs.Resulting.{source-end, source-other}
use Rattle.run_returns.proofs.source.Goals as goal

pub returns-then-kind_at : goal.returns-then-kind_at
returns-then-kind_at c = source-end _ _ _ c.kind_at.ensures c.if-kind_at.true

pub returns : goal.returns
returns c = c.x_at.ensures.0 ∙ source-other _ _ _ c.kind_at.ensures c.if-kind_at.false
