use mathlib.Core.Path.{◌∙◌}
use native.Mathlib.Omega.{arith}
use Rattle.areas.proofs.Shares.{none-fail, many-fail, as-together}
use Rattle.areas.proofs.shares_fit.Goals as goal

-- `areas::shares_fit` meets its contract. Assumes nothing.
pub returns-then-n-eq0 : goal.returns-then-n-eq0
returns-then-n-eq0 c = none-fail _ _ c.if-n-eq0.true

pub returns-then-n-gt-SCRIPTS : goal.returns-then-n-gt-SCRIPTS
returns-then-n-gt-SCRIPTS c = many-fail _ _ c.if-n-gt-SCRIPTS.true

pub returns : goal.returns
returns c = c.fit_together.ensures ∙ as-together _ _ c.if-n-eq0.false (omega arith)
