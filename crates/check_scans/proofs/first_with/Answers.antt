use Rattle.std.proofs.Common.{rules}
use Rattle.check_scans.proofs.first_with.Goals as goal

pub returns : goal.returns
returns c = c.first_touched.ensures _ (λ j r a h p. search rules)
