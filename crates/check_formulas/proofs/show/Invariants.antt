use Prim.Native.Nat.{◌+◌, ◌-◌}
use Rattle.check_formulas.specs.Formulas.{formula, Showing}
use Rattle.check_entries.specs.Entries.{LeftFits}
use Rattle.check_formulas.proofs.show.Given as goal

abbrev pub invariant-loop-i : goal.invariant-loop-i
invariant-loop-i l =
    LeftFits l.known.bytes l.left × Showing l.known.keys l.known.bytes (formula l.w l.y l.z l.x l.a l.n) (formula l.w l.y l.z l.x (l.a + l.i) (l.n - l.i)) l.left
