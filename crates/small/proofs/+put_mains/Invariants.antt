use Prim.Native.Nat.{◌-◌}
use Rattle.small.specs.Listing.{places_in, Lists}
use Rattle.small.proofs.Lines.{up_to}
use Rattle.small.proofs.+put_mains.Given as goal

-- with so many statements more, then with one less
abbrev pub decreases-put_mains : goal.decreases-put_mains
decreases-put_mains l = l.left

abbrev pub invariant-loop-place : goal.invariant-loop-place
invariant-loop-place l = Lists (up_to (places_in l.m) (l.left - 1) (l.place - 1)) l.initial.out l.at l.out l.e
