use mathlib.Core.Path.{◌≡◌}
use Prim.Native.Nat.{◌-◌}
use lib.Dec.{eqb}
use Rattle.rules.specs.Base.{any}
use Rattle.run_heap.specs.Chains.{cells_by}
use Rattle.run_footprint.proofs.chains.passes.Given as goal

abbrev pub invariant-loop-i : goal.invariant-loop-i
invariant-loop-i l = (any (eqb l.k) (cells_by l.work l.v.objects l.f (l.v.objects - l._i) l.at) ≡ any (eqb l.k) (cells_by l.work l.v.objects l.f l.v.objects l.o))
