use Rattle.check_equality.proofs.Labels.{slotted}
use native.Mathlib.Omega.{arith}
use Rattle.check_equality.proofs.slots.add_slot.Goals as goal

pub returns : goal.returns
returns c =
    slotted _ _ _ _ _ _ c.requires.1 (omega (arith, c.requires.2.size)) (omega (arith, c.told-label)) c.requires.3 c.new_label.ensures
