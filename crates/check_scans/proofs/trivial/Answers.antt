use Rattle.std.proofs.Common.{not, eqb, sym, eq-eqb, ne_eqb}
use Rattle.check_scans.specs.Scans.{same_sides}
use Rattle.check_scans.proofs.Scanning.{and-true, and-false}
use Rattle.check_scans.proofs.trivial.Goals as goal

pub returns-then-left-right : goal.returns-then-left-right
unfolding same_sides
returns-then-left-right c = rw (eq-eqb _ _ c.if-left-right.true) (sym (and-true _))

pub returns : goal.returns
unfolding same_sides
returns c = rw (ne_eqb _ _ c.if-left-right.false) (sym (and-false (not (eqb c.args.c 1))))
