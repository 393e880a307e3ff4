use mathlib.Core.Path.{sym, ◌∙◌}
use Rattle.rules.specs.declared.Kind.TheVariants.{Call, Loop, End}
use Rattle.rules.proofs.KindNumbers.{one_number}
use Rattle.bound_rows.proofs.Lines.{a_call, a-loop, an-end, a-plain}
use Rattle.bound_rows.proofs.line_at.Goals as goal

pub returns-in-Call : goal.returns-in-Call
returns-in-Call c = a_call _ c.requires.0 _ c.requires.1 _ c.member_at.ensures.0 (sym c.in-Call.ensures)

pub returns-in-Loop : goal.returns-in-Loop
returns-in-Loop c = a-loop _ c.requires.0 _ c.requires.1 (sym c.in-Loop.ensures)

pub returns-in-End : goal.returns-in-End
returns-in-End c = an-end _ c.requires.0 _ c.requires.1 (sym c.in-End.ensures)

pub returns-in_default : goal.returns-in_default
returns-in_default c =
    a-plain _ c.requires.0 _ c.requires.1 (λ e. c.in_default.not-Call (one_number _ Call (c.row_kind.ensures ∙ e)))
    (λ e. c.in_default.not-End (one_number _ End (c.row_kind.ensures ∙ e))) (λ e. c.in_default.not-Loop (one_number _ Loop (c.row_kind.ensures ∙ e)))
