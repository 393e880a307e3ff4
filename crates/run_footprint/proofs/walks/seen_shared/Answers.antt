use mathlib.Core.Path.{sym}
use Rattle.run_footprint.proofs.Sieves.{untouched-shares}
use native.Mathlib.Omega.{arith}
use Rattle.run_footprint.proofs.walks.seen_shared.Goals as goal

pub returns-then-b-eq0 : goal.returns-then-b-eq0
returns-then-b-eq0 c =
    sym (untouched-shares _ _ (c.requires.1.clear _ c.if-b-eq0.true))

pub shared-requires : goal.shared-requires
shared-requires c =
    omega (arith, c.requires.0.0)
