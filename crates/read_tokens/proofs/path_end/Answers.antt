use Rattle.read_bytes.proofs.Fields.{field-passes, field-fails}
use Rattle.read_tokens.proofs.Exprs.{ended_at, no-begin-at, whole-at, sign_at, path-at, path-ends}
use Rattle.rules.specs.Text.{is_expr}
use mathlib.Core.Path.{sym, ◌∙◌}
use native.Mathlib.Omega.{arith}
use Rattle.read_tokens.proofs.path_end.Goals as goal

pub returns-then-not-begins_name : goal.returns-then-not-begins_name
returns-then-not-begins_name c =
    field-fails is_expr c.args.l.now c.args.at (no-begin-at c.args.l.now c.args.at c.args.d
    c.requires.0 c.requires.1.is c.requires.2 (sym c.begins_name.ensures ∙ c.if-not-begins_name.true))

pub returns-then-ends_field : goal.returns-then-ends_field
returns-then-ends_field c =
    let t = sym c.ends_field.ensures ∙ c.if-ends_field.true in
    field-passes is_expr c.args.l.now c.args.at c.args.d (whole-at c.args.l.now c.args.at
    c.args.d c.requires.0 c.requires.1.is c.requires.2 (sym c.begins_name.ensures ∙ c.if-not-begins_name.false) t) (omega
    (arith, c.requires.1.is, ended_at c.args.l.now c.args.at c.args.d c.requires.0 c.requires.1.is t))

pub returns-then-l-d-ne-FULL_STOP : goal.returns-then-l-d-ne-FULL_STOP
returns-then-l-d-ne-FULL_STOP c =
    field-fails is_expr c.args.l.now c.args.at (sign_at c.args.l.now c.args.at c.args.d
    c.requires.0 c.requires.1.is c.requires.2 (sym c.begins_name.ensures ∙ c.if-not-begins_name.false) (sym c.ends_field.ensures ∙
    c.if-ends_field.false) c.if-l-d-ne-FULL_STOP.true)

pub returns-then-is_name : goal.returns-then-is_name
returns-then-is_name c =
    field-passes is_expr c.args.l.now c.args.at c.find-e.result (path-at c.args.l.now c.args.at
    c.args.d c.requires.0 c.requires.1.is c.requires.2 (sym c.begins_name.ensures ∙ c.if-not-begins_name.false) (sym
    c.ends_field.ensures ∙ c.if-ends_field.false) c.if-l-d-ne-FULL_STOP.false c.find-e.result c.find-e.ensures.is ∙ (sym c.is_name.ensures ∙ c.if-is_name.true)) (path-ends c.args.l.now c.args.at c.args.d c.requires.0 c.requires.1.is c.requires.2 (sym
    c.begins_name.ensures ∙ c.if-not-begins_name.false) (sym c.ends_field.ensures ∙ c.if-ends_field.false) c.if-l-d-ne-FULL_STOP.false c.find-e.result c.find-e.ensures.is)

pub returns-else-is_name : goal.returns-else-is_name
returns-else-is_name c =
    field-fails is_expr c.args.l.now c.args.at (path-at c.args.l.now c.args.at c.args.d
    c.requires.0 c.requires.1.is c.requires.2 (sym c.begins_name.ensures ∙ c.if-not-begins_name.false) (sym c.ends_field.ensures ∙
    c.if-ends_field.false) c.if-l-d-ne-FULL_STOP.false c.find-e.result c.find-e.ensures.is ∙ (sym c.is_name.ensures ∙ c.if-is_name.false))
