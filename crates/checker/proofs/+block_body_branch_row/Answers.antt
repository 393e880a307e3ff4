use Rattle.rules.specs.declared.Kind.TheVariants as Kind
use Rattle.rules.proofs.KindNumbers.{one_number}
use mathlib.Core.Path.{sym, ◌∙◌}
use native.Mathlib.Omega.{arith}
use Rattle.checker.proofs.Blocks.{going, passed-on, part-ends, row-done, step-passes, if-deep, if-inner, if-stops, first-stops, turn-stops, turn-inner, second-stops, join-passes, loop-deep, loop-inner, loop-stops, body-stops, loop-passes, ends, passed-goes}
use Rattle.checker.proofs.+block_body_branch_row.Goals as goal

pub block-loop-known-preserved : goal.block-loop-known-preserved
block-loop-known-preserved t c =
    passed-goes c.loop-known.invariant c.in_ok-r.ensures c.if-r.false

pub block-returns : goal.block-returns
block-returns t c =
    ends c.loop-known.invariant (sym c.is_closing_at.ensures ∙ c.loop-known-test.false)

pub branch-returns-in_err-at_row : goal.branch-returns-in_err-at_row
branch-returns-in_err-at_row t c =
    rw (passed-on _ _ c.from_residual.ensures.1) (if-stops c.requires.0 c.requires.1 _ c.if_at.ensures c.in_err-at_row.ensures)

pub branch-overflow_sub-depth : goal.branch-overflow_sub-depth
branch-overflow_sub-depth t c =
    let h = if-deep c.requires.0 c.requires.1 in omega arith

pub branch-block-requires : goal.branch-block-requires
branch-block-requires t c =
    let h = if-deep c.requires.0 c.requires.1 in
    (omega arith, if-inner c.requires.0 c.requires.1)

pub branch-returns-in_err-one : goal.branch-returns-in_err-one
branch-returns-in_err-one t c =
    rw (passed-on _ _ c.from_residual-in_err-one.ensures.1) (first-stops c.requires.0 c.requires.1 _ c.if_at.ensures (row-done _ _ _ c.in_ok-at_row.ensures) c.in_err-one.ensures)

pub branch-returns-in_err-turned : goal.branch-returns-in_err-turned
branch-returns-in_err-turned t c =
    rw (passed-on _ _ c.from_residual-in_err-turned.ensures.1) (turn-stops c.requires.0 c.requires.1 _ c.if_at.ensures (row-done _ _ _ c.in_ok-at_row.ensures) c.in_ok-one.ensures c.in_err-turned.ensures)

pub branch-overflow_sub-depth-2 : goal.branch-overflow_sub-depth-2
branch-overflow_sub-depth-2 t c =
    let h = if-deep c.requires.0 c.requires.1 in omega arith

pub branch-block-requires-2 : goal.branch-block-requires-2
branch-block-requires-2 t c =
    let h = if-deep c.requires.0 c.requires.1 in
    let two = turn-inner c.requires.0 c.requires.1 _ c.if_at.ensures (row-done _ _ _ c.in_ok-at_row.ensures) c.in_ok-one.ensures c.in_ok-turned.ensures in
    (omega arith, two)

pub branch-returns-in_err-two : goal.branch-returns-in_err-two
branch-returns-in_err-two t c =
    rw (passed-on _ _ c.from_residual-in_err-two.ensures.1) (second-stops c.requires.0 c.requires.1 _ c.if_at.ensures (row-done _ _ _ c.in_ok-at_row.ensures) c.in_ok-one.ensures c.in_ok-turned.ensures c.in_err-two.ensures)

pub branch-joined-requires : goal.branch-joined-requires
branch-joined-requires t c =
    (c.requires.0.tables, part-ends c.in_ok-two.ensures)

pub branch-returns : goal.branch-returns
branch-returns t c =
    join-passes c.requires.0 c.requires.1 _ c.if_at.ensures (row-done _ _ _ c.in_ok-at_row.ensures) c.in_ok-one.ensures c.in_ok-turned.ensures
    c.in_ok-two.ensures c.joined.ensures

pub row-statement-requires : goal.row-statement-requires
row-statement-requires t c =
    let on = going _ c.requires.1
    (λ e. c.in_default.not-Return (one_number _ Kind.Return (c.row_kind.ensures ∙ e))) (λ e. c.in_default.not-If (one_number _ Kind.If (c.row_kind.ensures ∙ e)))
    (λ e. c.in_default.not-Loop (one_number _ Kind.Loop (c.row_kind.ensures ∙ e))) in
    (c.requires.0.tables, c.requires.0.within, on)

pub row-returns-in_default : goal.row-returns-in_default
row-returns-in_default t c =
    let on = going _ c.requires.1
    (λ e. c.in_default.not-Return (one_number _ Kind.Return (c.row_kind.ensures ∙ e))) (λ e. c.in_default.not-If (one_number _ Kind.If (c.row_kind.ensures ∙ e)))
    (λ e. c.in_default.not-Loop (one_number _ Kind.Loop (c.row_kind.ensures ∙ e))) in
    step-passes c.requires.0 c.statement.ensures on c.passed.ensures

pub body-returns-in_err-at_row : goal.body-returns-in_err-at_row
body-returns-in_err-at_row t c =
    rw (passed-on _ _ c.from_residual.ensures.1) (loop-stops c.requires.0 c.requires.1 _ c.loop_at.ensures c.in_err-at_row.ensures)

pub body-overflow_sub-depth : goal.body-overflow_sub-depth
body-overflow_sub-depth t c =
    let h = loop-deep c.requires.0 c.requires.1 in omega arith

pub body-block-requires : goal.body-block-requires
body-block-requires t c =
    let h = loop-deep c.requires.0 c.requires.1 in
    (omega arith, loop-inner c.requires.0 c.requires.1)

pub body-returns-in_err-end : goal.body-returns-in_err-end
body-returns-in_err-end t c =
    rw (passed-on _ _ c.from_residual-in_err-end.ensures.1) (body-stops c.requires.0 c.requires.1 _ c.loop_at.ensures (row-done _ _ _ c.in_ok-at_row.ensures) c.in_err-end.ensures)

pub body-returns : goal.body-returns
body-returns t c =
    loop-passes c.requires.0 c.requires.1 _ c.loop_at.ensures (row-done _ _ _ c.in_ok-at_row.ensures) c.in_ok-end.ensures c.closed.ensures
