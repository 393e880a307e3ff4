use Rattle.small.specs.Listing.{Lists}
use Rattle.small.proofs.Lines.{below}
use Rattle.small.proofs.put_small.Given as goal

-- `small::put_small` meets its contract. Assumes nothing.
abbrev pub invariant-loop-count : goal.invariant-loop-count
invariant-loop-count l = Lists (below l.count) l.initial.out 0 l.out l.e
