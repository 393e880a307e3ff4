use Rattle.check_entries.proofs.Keeping.{renamed-more}
use Rattle.check_equality.specs.Links.{picked}
use native.Mathlib.Omega.{arith}
use Rattle.check_entries.proofs.rename_entries.Goals as goal

pub loop-i-preserved : goal.loop-i-preserved
unfolding picked
loop-i-preserved c = renamed-more _ _ _ _ _ _ (omega (arith, c.requires)) c.loop-i.invariant c.pick.ensures
