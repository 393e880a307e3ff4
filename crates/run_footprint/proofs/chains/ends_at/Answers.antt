use Rattle.std.proofs.Common.{rules}
use Rattle.run_footprint.specs.Footprints.{ends_by}
use Rattle.run_footprint.proofs.chains.ends_at.Goals as goal

pub returns : goal.returns
returns c = c.one_of.ensures (ends_by _ _ _ _) (λ s b p. search rules)
