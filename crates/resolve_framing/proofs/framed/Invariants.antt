use Rattle.resolve_framing.proofs.Framing.{Passed}
use Rattle.resolve_framing.proofs.framed.Given as goal

-- The invariant: the answer is that of the atoms from i on, after those before.
abbrev pub invariant-loop-i : goal.invariant-loop-i
invariant-loop-i l = Passed l.work l.first l.count l.i
