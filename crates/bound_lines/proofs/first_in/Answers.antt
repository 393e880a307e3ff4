use mathlib.Core.Path.{refl, sym, ap, ◌∙◌}
use Rattle.std.specs.Prelude.{Some}
use Rattle.bound_lines.proofs.Firsts.{call-is-there, is-refused, is_last, is-passed}
use Rattle.bound_lines.proofs.first_in.Goals as goal

pub look-requires : goal.look-requires
look-requires c =
    (c.requires.0, (c.requires.1.0, call-is-there _ c.requires.0 _ c.loop-row.invariant.0 _ c.line_at-line.ensures))

pub returns-in-Repeats : goal.returns-in-Repeats
returns-in-Repeats c =
    ap Some c.line_at.ensures.0 ∙ sym (is-refused _ c.requires.0 _ _ c.loop-row.invariant.0 _ c.line_at-line.ensures _ c.look.ensures c.in-Repeats.is) ∙ c.loop-row.invariant.1

pub returns-in-Ends : goal.returns-in-Ends
returns-in-Ends c =
    sym (is_last _ c.requires.0 _ _ c.loop-row.invariant.0 _ c.line_at-line.ensures _ c.look.ensures c.in-Ends.is) ∙ c.loop-row.invariant.1

pub loop-row-preserved : goal.loop-row-preserved
loop-row-preserved c =
    let (l, e) = is-passed _ c.requires.0 _ _ c.loop-row.invariant.0 _ c.line_at-line.ensures _ c.look.ensures _ refl c.in-Goes.is in (l, e ∙ c.loop-row.invariant.1)
