use mathlib.Core.Path.{refl}
use Rattle.run_footprint.specs.Footprints.{is_chain}
use Rattle.run_footprint.proofs.chains.is_chain.Goals as goal

pub returns : goal.returns
unfolding is_chain
returns c =
    refl
