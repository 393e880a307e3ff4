use Rattle.check_state.proofs.Whole.{whole}
use Rattle.check_forgetting.proofs.Changes.{successor-term}
use native.Mathlib.Omega.{arith}
use Rattle.check_forgetting.proofs.gives_way.Goals as goal

pub returns : goal.returns
returns c = λ m. successor-term _ _ _ (omega arith) (whole c.args.known.now.sound) _ c.entries_of-skip.ensures _ _ m c.successor.ensures
