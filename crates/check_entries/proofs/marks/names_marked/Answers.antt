use Rattle.check_entries.proofs.Marking.{unmarked-path}
use Rattle.std.proofs.Common.{false, rules}
use mathlib.Core.Path.{sym}
use Rattle.check_entries.proofs.marks.names_marked.Goals as goal

pub returns : goal.returns
returns c =
    sym (unmarked-path _ _ _ c.args.marks.now _ _ c.requires.1 c.place-p.ensures.0 c.if-marks-p.false)

pub returns-then-marks-p : goal.returns-then-marks-p
returns-then-marks-p c = c.names_with.ensures false (λ o r p. search rules)
