use mathlib.Core.Path.{refl}
use Rattle.check_labels.specs.Labels.{fitting}
use Rattle.check_labels.proofs.fit.Goals as goal

pub returns : goal.returns
unfolding fitting
returns c = refl
