use Rattle.checker.proofs.Blocks.{turned-else, turned-wrong}
use Rattle.rules.specs.declared.Kind.TheVariants.{Else}
use Rattle.rules.proofs.KindNumbers.{same, apart}
use mathlib.Core.Path.{sym, ◌∙◌}
use Rattle.checker.proofs.parts.turned.Goals as goal

pub returns-then-eq : goal.returns-then-eq
returns-then-eq c =
    turned-else _ c.requires.0 _ c.requires.1 (sym c.row_kind.ensures ∙ same c.row_kind.result Else c.if-eq.ensures)

pub returns : goal.returns
returns c =
    turned-wrong _ c.requires.0 _ c.requires.1 (λ e. apart c.row_kind.result Else c.if-eq.ensures (c.row_kind.ensures ∙ e))
