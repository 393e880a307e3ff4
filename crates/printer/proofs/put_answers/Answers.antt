use mathlib.Core.Path.{sym, ap, ◌∙◌}
use native.Mathlib.Omega.{arith}
use Rattle.printer.specs.Answers.{run_line}
use Rattle.printer.proofs.Writes.{writes-on, writes_as}
use Rattle.printer.proofs.Reading.{read-parts}
use Rattle.printer.proofs.Answers.{check-few, run-few, written, unread-printed, read-printed}
use Rattle.printer.proofs.put_answers.Goals as goal

pub returns-then-is_unread : goal.returns-then-is_unread
returns-then-is_unread c =
    written c.put_check-a.ensures (unread-printed c.args.text.now c.args.checked c.args.ran c.args.results.now (sym c.is_unread.ensures ∙ c.if-is_unread.true))

pub put_run-b-requires : goal.put_run-b-requires
put_run-b-requires c =
    omega (arith, c.put_check-a.ensures.end, c.put_check-a.ensures.size, check-few c.args.checked, c.requires.0)

pub show_variables-requires : goal.show_variables-requires
show_variables-requires c =
    let (items, e) = c.requires.2 (sym c.is_unread.ensures ∙ c.if-is_unread.false) in
    (omega (arith, c.put_check-a.ensures.end, c.put_run-b.ensures.end, c.put_check-a.ensures.size, c.put_run-b.ensures.size, check-few c.args.checked, run-few c.args.ran c.word_at.result, c.requires.0), c.requires.1, (read-parts c.args.text.now items e).taken)

pub returns : goal.returns
returns c =
    let n = sym c.is_unread.ensures ∙ c.if-is_unread.false in
    let (items, e) = c.requires.2 n in
    let y = writes_as c.put_run-b.ensures (ap (λ k. run_line c.args.ran k) c.word_at.ensures) in
    written (writes-on c.put_check-a.ensures (writes-on y c.show_variables.ensures))
    (read-printed c.args.text.now c.args.checked c.args.ran c.args.results.now n items e)
