use mathlib.Core.Path.{◌∙◌}
use native.Mathlib.Omega.{arith}
use Rattle.targets.proofs.Stacks.{innermost-closed, none-closed}
use Rattle.targets.proofs.work_after.Goals as goal

pub returns-then-o-ne0 : goal.returns-then-o-ne0
returns-then-o-ne0 c = c.close.ensures ∙ innermost-closed _ _ _ _ _ (λ e. omega (arith, e))

pub returns-else-o-ne0 : goal.returns-else-o-ne0
returns-else-o-ne0 c = none-closed _ _ _ _ _ (omega arith)
