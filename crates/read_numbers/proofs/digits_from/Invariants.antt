use Rattle.read_numbers.specs.Numbers.{Begun}
use Rattle.read_numbers.proofs.digits_from.Given as goal

-- The invariant: the digits read so far.
abbrev pub invariant-loop-end : goal.invariant-loop-end
invariant-loop-end l = Begun l.l l.at l.value l.end
