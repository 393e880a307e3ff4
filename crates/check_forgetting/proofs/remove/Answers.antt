use Prim.Native.Nat.{ℕ}
use Rattle.check_forgetting.specs.Changes.{Becomes}
use Rattle.check_state.specs.States.{state_of}
use mathlib.Core.Option.{Option}
use mathlib.Core.Path.{subst}
use Rattle.rules.specs.State as Rules
use Rattle.check_forgetting.proofs.remove.Goals as goal

pub returns : goal.returns
unfolding Rules.remove
returns c =
    subst (λ (o : Option ℕ). Becomes (Rules.remove_to c.args.x o (state_of c.args.known.now.keys c.args.known.now.bytes)) c.remove_to.new.known.keys c.remove_to.new.known.bytes) c.stand_in-to.ensures c.remove_to.ensures
