use mathlib.Core.Path.{sym, ◌∙◌}
use Rattle.fill_blocks.proofs.Calling.{ends, calls, on_call, on_plain}
use Rattle.fill_blocks.proofs.calls.Goals as goal
use Rattle.fill_blocks.proofs.calls.Goals.{in-Call+else-n-m, in-Plain}

pub returns-in-End : goal.returns-in-End
returns-in-End c = sym (c.loop-i.invariant.1 ∙ ends _ _ _ c.in-End.ensures)

pub returns-then-n-m : goal.returns-then-n-m
returns-then-n-m c = sym (c.loop-i.invariant.1 ∙ calls _ _ _ _ c.in-Call.ensures c.if-n-m.true)

pub loop-i-preserved : goal.loop-i-preserved
loop-i-preserved c =
    let (l, e) = c.loop-i.invariant in
    elim c.match-line_at.branch [
      | in-Call+else-n-m w ↦ let (k, d) = on_call _ _ _ c.requires.0 l _ c.line_at.ensures _ w.in-Call.is w.if-n-m.false in (k, e ∙ d)
      | in-Plain w ↦ let (k, d) = on_plain _ _ _ c.requires.0 l _ c.line_at.ensures w.in-Plain.is in (k, e ∙ d)
    ]
