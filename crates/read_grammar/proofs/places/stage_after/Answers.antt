use borrow.Author.Tests.{ne_eqb}
use Rattle.rules.specs.declared.Kind.TheVariants.{End}
use Rattle.rules.specs.Numbered.{number}
use Rattle.rules.proofs.KindNumbers.{alike, unlike}
use Rattle.rules.specs.Places.{stage_number}
use Rattle.read_grammar.specs.Coded.{stage_after}
use Rattle.read_grammar.proofs.places.stage_after.Goals as goal

-- `stage_after` meets its contract. Assumes nothing.
pub returns-then-ne : goal.returns-then-ne
unfolding stage_after
returns-then-ne c = rw (ne_eqb (number c.args.kind) 18 (unlike c.args.kind End c.if-ne.ensures))

pub returns-then-main : goal.returns-then-main
unfolding stage_after stage_number
returns-then-main c = rw (alike c.args.kind End c.if-ne.ensures, c.if-main.true)

pub returns-else-main : goal.returns-else-main
unfolding stage_after stage_number
returns-else-main c = rw (alike c.args.kind End c.if-ne.ensures, c.if-main.false)
