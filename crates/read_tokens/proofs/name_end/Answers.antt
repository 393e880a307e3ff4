use borrow.Author.Tests.{lt-leb}
use mathlib.Core.Path.{sym, ap, ◌∙◌}
use Rattle.rules.specs.Text.{letter, is_name}
use Rattle.read_bytes.proofs.Fields.{field-fails}
use Rattle.read_tokens.proofs.Exprs.{no-letter-at, not-begun, ends-name, no-name-at}
use Rattle.read_tokens.proofs.name_end.Goals as goal

pub returns-then-not-is_letter : goal.returns-then-not-is_letter
returns-then-not-is_letter c =
    let e = ap letter (sym c.byte_at.ensures) ∙ (sym c.is_letter.ensures ∙ c.if-not-is_letter.true) in
    field-fails is_name c.args.l.now c.args.at (no-letter-at c.args.l.now c.args.at c.requires e)

pub returns-then-e-at-gt-NAME_BYTES : goal.returns-then-e-at-gt-NAME_BYTES
returns-then-e-at-gt-NAME_BYTES c =
    field-fails is_name c.args.l.now c.args.at (not-begun c.args.l.now c.args.at c.name_stop-e.result c.requires c.name_stop-e.ensures.is (rw (lt-leb _ 12 c.if-e-at-gt-NAME_BYTES.true)))

pub returns-then-ends_field : goal.returns-then-ends_field
returns-then-ends_field c =
    let e = ap letter (sym c.byte_at.ensures) ∙ (sym c.is_letter.ensures ∙ c.if-not-is_letter.false) in
    ends-name c.args.l.now c.args.at c.name_stop-e.result c.requires c.name_stop-e.ensures.is
    (sym c.ends_field.ensures ∙ c.if-ends_field.true) c.if-e-at-gt-NAME_BYTES.false e

pub returns-else-ends_field : goal.returns-else-ends_field
returns-else-ends_field c =
    field-fails is_name c.args.l.now c.args.at (no-name-at c.args.l.now c.args.at c.name_stop-e.result c.requires c.name_stop-e.ensures.is (sym c.ends_field.ensures ∙ c.if-ends_field.false))
