use Rattle.check_state.proofs.Whole.{whole}
use native.Mathlib.Omega.{arith}
use Rattle.check_forgetting.proofs.Changes.{names-forgettable, erase-law}
use Rattle.check_forgetting.proofs.erase.Goals as goal

pub drop_names-requires : goal.drop_names-requires
drop_names-requires c = names-forgettable _ _ _ (omega arith) (whole c.args.known.now.sound) _ c.entries_of-out.ensures

pub invariant_of-known : goal.invariant_of-known
invariant_of-known c =
    record { sound = ∣ (erase-law _ _ _ (omega arith) (whole c.args.known.now.sound) _ c.entries_of-out.ensures _ _ _ c.drop_names.ensures c.pack.ensures).wf ∣₁ }

pub returns : goal.returns
returns c = erase-law _ _ _ (omega arith) (whole c.args.known.now.sound) _ c.entries_of-out.ensures _ _ _ c.drop_names.ensures c.pack.ensures
