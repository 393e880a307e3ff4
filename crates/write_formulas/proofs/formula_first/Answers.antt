use borrow.Author.Tests.{ne_eqb}
use Rattle.rules.specs.declared.Kind.TheVariants.{Loop}
use Rattle.rules.specs.Numbered.{number}
use Rattle.rules.proofs.KindNumbers.{same, apart}
use Rattle.write_formulas.specs.Claims.{own_first}
use Rattle.write_formulas.proofs.formula_first.Goals as goal

pub returns-then-eq : goal.returns-then-eq
unfolding own_first
returns-then-eq c = rw (same c.args.kind Loop c.if-eq.ensures)

pub returns-else-eq : goal.returns-else-eq
unfolding own_first
returns-else-eq c = rw (ne_eqb (number c.args.kind) 21 (apart c.args.kind Loop c.if-eq.ensures))
