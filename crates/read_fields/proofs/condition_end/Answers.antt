use mathlib.Core.Path.{sym, ap, ◌∙◌}
use mathlib.Core.Bool.{true, false}
use borrow.Author.Tests.{not-true, not-false}
use Rattle.rules.specs.Text.{is_formula}
use Rattle.read_atoms.specs.Atoms.{atom_row, begun_by}
use Rattle.read_fields.specs.Spans.{condition_first}
use Rattle.read_fields.proofs.Cuts.{no_more}
use Rattle.read_fields.proofs.Heads.{no-condition, condition-case, condition-empty}
use Rattle.read_fields.proofs.Spans.{read_as}
use Rattle.read_fields.proofs.condition_end.Goals as goal

pub returns-then-byte_at-ne-TAB : goal.returns-then-byte_at-ne-TAB
returns-then-byte_at-ne-TAB c = no-condition _ _ (no_more c.args.t.now c.args.r (λ e. c.if-byte_at-ne-TAB.true (c.byte_at.ensures ∙ e)))

pub returns-in_err-kind : goal.returns-in_err-kind
returns-in_err-kind c =
    rw c.from_residual.ensures
    (condition-empty c.args.t.now c.args.r (sym c.byte_at.ensures ∙ c.if-byte_at-ne-TAB.false) (sym (ap begun_by c.byte_at-2.ensures) ∙ c.in_err-kind.ensures) c.args.most)

pub returns-then-not-row_of_kind : goal.returns-then-not-row_of_kind
returns-then-not-row_of_kind c =
    let k = c.in_ok-kind.ensures ∙ ap begun_by c.byte_at-2.ensures in
    condition-case c.args.t.now c.args.r (sym c.byte_at.ensures ∙ c.if-byte_at-ne-TAB.false) _
    (c.row_of_kind.ensures ∙ ap atom_row k) false (not-true _ c.if-not-row_of_kind.true) c.args.most

pub returns : goal.returns
returns c =
    let k = c.in_ok-kind.ensures ∙ ap begun_by c.byte_at-2.ensures in
    read_as (is_formula c.args.most) (condition_first c.args.most) c.args.t.now c.args.r c.formula_end.result
    (condition-case c.args.t.now c.args.r (sym c.byte_at.ensures ∙ c.if-byte_at-ne-TAB.false) _
    (c.row_of_kind.ensures ∙ ap atom_row k) true (not-false _ c.if-not-row_of_kind.false) c.args.most)
    c.formula_end.ensures
