use Rattle.check_state.proofs.Whole.{whole}
use native.Mathlib.Omega.{arith}
use Rattle.check_forgetting.proofs.Changes.{replace-law}
use Rattle.check_forgetting.proofs.replace.Goals as goal

pub invariant_of-known : goal.invariant_of-known
invariant_of-known c =
    record { sound = ∣ (replace-law _ _ _ (omega arith) (whole c.args.known.now.sound) _ (omega arith) _ _ _ c.rename_names.ensures c.rename_entries.ensures).wf ∣₁ }

pub returns : goal.returns
returns c = replace-law _ _ _ (omega arith) (whole c.args.known.now.sound) _ (omega arith) _ _ _ c.rename_names.ensures c.rename_entries.ensures
