use Rattle.std.proofs.Common.{rules}
use Rattle.run_footprint.specs.Footprints.{share_at}
use Rattle.run_footprint.proofs.walks.shared.Goals as goal

pub returns : goal.returns
returns c = c.one_of.ensures (share_at _) (λ s b p. search rules)
