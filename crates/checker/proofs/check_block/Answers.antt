use Rattle.checker.proofs.Blocks.{block_refused, block-ended, block-open}
use Rattle.rules.specs.declared.Kind.TheVariants.{End}
use Rattle.rules.proofs.KindNumbers.{alike, unlike}
use mathlib.Core.Path.{sym, ap, ◌∙◌}
use Rattle.checker.specs.declared.RefusedLine.{RefusedLine}
use Rattle.std.proofs.Common.{Err}
use Rattle.checker.specs.Checked.{verdict_of}
use Rattle.checker.proofs.check_block.Goals as goal

pub returns-in-Err : goal.returns-in-Err
returns-in-Err c =
    ap (λ (e : RefusedLine). verdict_of (Err e)) c.line_of.ensures ∙ block_refused _ c.requires.0 _ _ _ _ _ _ c.in-Err.ensures

pub returns-then-ne : goal.returns-then-ne
returns-then-ne c =
    block-open _ c.requires.0 _ _ _ _ _ _ c.in-Ok.ensures _ c.line_at-line.ensures.0 (λ e. unlike c.row_kind.result End c.if-ne.ensures (c.row_kind.ensures ∙ e))

pub returns : goal.returns
returns c =
    ap verdict_of c.on_line.ensures ∙ block-ended _ c.requires.0 _ _ _ _ _ _ c.in-Ok.ensures _ c.line_at-line.ensures.0 (sym c.row_kind.ensures ∙ alike c.row_kind.result End c.if-ne.ensures) _ c.show_end.ensures
