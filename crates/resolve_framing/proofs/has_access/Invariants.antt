use mathlib.Core.Path.{◌≡◌}
use Rattle.resolve_framing.proofs.Framing.{framed_before}
use Rattle.resolve_framing.proofs.has_access.Given as goal

-- The invariant: the atoms from `first` + i on have no access of x.f.
abbrev pub invariant-loop-i : goal.invariant-loop-i
invariant-loop-i l = framed_before l.work l.first l.x l.f l.n ≡ framed_before l.work l.first l.x l.f l.i
