use Rattle.check_forgetting.proofs.Starts.{fresh-nothing}
use Rattle.check_forgetting.proofs.nothing.Goals as goal

pub invariant_of-result : goal.invariant_of-result
invariant_of-result c = record { sound = ∣ (fresh-nothing _ _ c.header-keys.ensures c.fresh.ensures).wf ∣₁ }

pub returns : goal.returns
returns c = fresh-nothing _ _ c.header-keys.ensures c.fresh.ensures
