use mathlib.Core.Path.{sym, ◌∙◌}
use Rattle.read_fields.proofs.Spans.{no-tab, operand-expr, operand-name}
use Rattle.read_fields.proofs.next_operand.Goals as goal

pub returns-then-byte_at-ne-TAB : goal.returns-then-byte_at-ne-TAB
returns-then-byte_at-ne-TAB c = no-tab _ c.args.t.now c.args.r (λ e. c.if-byte_at-ne-TAB.true (c.byte_at.ensures ∙ e))

pub returns-then-operand-eq-EXPRESSION : goal.returns-then-operand-eq-EXPRESSION
returns-then-operand-eq-EXPRESSION c = operand-expr c.args.t.now c.args.r c.args.operand (sym c.byte_at.ensures ∙ c.if-byte_at-ne-TAB.false) _ c.if-operand-eq-EXPRESSION.true c.expr_end.ensures

pub returns : goal.returns
returns c = operand-name c.args.t.now c.args.r c.args.operand (sym c.byte_at.ensures ∙ c.if-byte_at-ne-TAB.false) _ c.if-operand-eq-EXPRESSION.false c.name_end.ensures
