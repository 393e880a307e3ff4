use Rattle.check_scans.specs.Scans.{NoPath}
use Rattle.check_scans.proofs.has_path.Given as goal

abbrev pub invariant-loop-i : goal.invariant-loop-i
invariant-loop-i l = NoPath l.key l.from l.i l.x
