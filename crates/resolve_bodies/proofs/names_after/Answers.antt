use Rattle.rules.specs.declared.Kind.TheVariants.{End}
use Rattle.rules.specs.Numbered.{number}
use Rattle.rules.proofs.KindNumbers.{alike, unlike}
use Rattle.resolve_pass.specs.Passes.{with_block}
use Rattle.resolve_bodies.proofs.Items.{closes, stays_open}
use Rattle.resolve_bodies.proofs.names_after.Goals as goal

-- `resolve_bodies::names_after` meets its contract. Assumes nothing.
pub returns-then-ne : goal.returns-then-ne
returns-then-ne c =
    stays_open (number c.args.kind) c.requires (unlike c.args.kind End c.if-ne.ensures) c.args.c

pub returns : goal.returns
unfolding with_block
returns c =
    closes (number c.args.kind) c.requires (alike c.args.kind End c.if-ne.ensures) c.args.c
