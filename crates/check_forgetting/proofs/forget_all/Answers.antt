use Rattle.check_state.proofs.Whole.{whole}
use Rattle.check_forgetting.proofs.forget_all.Goals as goal

pub invariant_of-known : goal.invariant_of-known
invariant_of-known c = record { sound = ∣ (c.clear.ensures _ (whole c.args.known.now.sound).linked.header).wf ∣₁ }

pub returns : goal.returns
returns c = c.clear.ensures _ (whole c.args.known.now.sound).linked.header
