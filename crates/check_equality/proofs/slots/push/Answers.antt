use Rattle.check_equality.proofs.Labels.{pushed}
use native.Mathlib.Omega.{arith}
use Rattle.check_equality.proofs.slots.push.Goals as goal

pub returns : goal.returns
returns c =
    pushed _ _ c.args.m c.args.left c.args.right (omega (arith, c.requires.2.size)) _ _ _ _ c.add_slot.ensures c.add_slot-2.ensures c.requires.1 (omega (arith, c.add_slot.ensures.size, c.add_slot-2.ensures.size, c.told-label)) _ _ c.link_unless.ensures
