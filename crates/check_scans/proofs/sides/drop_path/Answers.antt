use Rattle.std.proofs.Common.{rules}
use Rattle.check_scans.proofs.sides.drop_path.Goals as goal

pub returns : goal.returns
returns c = c.drop_sides.ensures _ (λ j r a h p. search rules) c.requires.2
