use Rattle.check_state.proofs.Whole.{whole}
use Rattle.checker.proofs.Blocks.{closed-join, closed-not-join}
use Rattle.rules.specs.declared.Kind.TheVariants.{Join}
use Rattle.rules.proofs.KindNumbers.{same, apart}
use mathlib.Core.Path.{sym, ◌∙◌}
use Rattle.checker.proofs.parts.joined.Goals as goal

pub returns-then-eq : goal.returns-then-eq
returns-then-eq c =
    closed-join _ c.requires.0 _ c.requires.1 _ _ (sym c.row_kind.ensures ∙ same c.row_kind.result Join c.if-eq.ensures) _ _ _ c.join_at-l.ensures _ c.passed.ensures

pub returns : goal.returns
returns c =
    closed-not-join _ c.requires.0 _ c.requires.1 _ _ (λ e. apart c.row_kind.result Join c.if-eq.ensures (c.row_kind.ensures ∙ e)) _ _ (whole c.args.known.now.sound)
