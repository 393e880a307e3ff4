use Rattle.std.proofs.Common.{rules}
use Rattle.check_equality.specs.Links.{picked}
use Rattle.check_scans.proofs.sides.swap_key.Goals as goal

pub returns : goal.returns
unfolding picked
returns c = c.map_sides.ensures _ (λ j r a h p. search rules) c.requires.2
