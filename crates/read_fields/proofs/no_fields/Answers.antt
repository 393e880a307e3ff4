use mathlib.Core.Path.{sym, ◌∙◌}
use Rattle.read_fields.proofs.Spans.{none_read, some_read}
use Rattle.read_fields.proofs.no_fields.Goals as goal

pub returns-then-byte_at-ne-TAB : goal.returns-then-byte_at-ne-TAB
returns-then-byte_at-ne-TAB c = none_read c.args.t.now c.args.r c.requires (λ e. c.if-byte_at-ne-TAB.true (c.byte_at.ensures ∙ e))

pub returns : goal.returns
returns c = some_read c.args.t.now c.args.r (sym c.byte_at.ensures ∙ c.if-byte_at-ne-TAB.false)
