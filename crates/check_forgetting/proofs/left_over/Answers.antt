use Rattle.check_state.proofs.Whole.{whole}
use Rattle.check_forgetting.proofs.Changes.{left-term}
use Rattle.check_successors.specs.Successors.{term_or}
use mathlib.Core.Path.{sym, ◌∙◌}
use native.Mathlib.Omega.{arith}
use Rattle.check_forgetting.proofs.left_over.Goals as goal

pub returns : goal.returns
unfolding term_or
returns c = left-term _ _ _ (omega arith) (whole c.args.known.now.sound) _ (sym c.mentions.ensures ∙ c.if-mentions.false)
