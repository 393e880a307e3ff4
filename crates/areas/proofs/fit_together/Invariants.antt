use Rattle.areas.proofs.Shares.{Left}
use Rattle.areas.proofs.fit_together.Given as goal

-- `areas::fit_together` meets its contract. Assumes nothing.
abbrev pub invariant-loop-k : goal.invariant-loop-k
invariant-loop-k l = Left l.shares l.k-index l.left
