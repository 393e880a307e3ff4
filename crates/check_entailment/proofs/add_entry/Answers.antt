use mathlib.Core.Path.{refl}
use Rattle.std.proofs.lemmas.Grind.{merely}
use Rattle.check_state.proofs.Whole.{whole}
use Rattle.check_entailment.proofs.add_entry.Goals as goal

pub invariant_of-known : goal.invariant_of-known
invariant_of-known c = record { sound = merely (c.add_permission.ensures _ (whole c.args.known.now.sound)).wf }

pub returns : goal.returns
returns c = (c.add_permission.ensures _ (whole c.args.known.now.sound), refl)
