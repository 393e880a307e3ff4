use native.Mathlib.Omega.{arith}
use mathlib.Core.Path.{sym, ap, subst}
use Rattle.rules.specs.Numbered.{number}
use Rattle.rules.proofs.KindNumbers.{bounds}
use Rattle.rules.specs.Grammar.{form}
use Rattle.read_grammar.specs.declared.Row.{Row}
use Rattle.read_grammar.specs.Rows.{kind_numbered, row_of}
use Rattle.read_fields.specs.Spans.{FieldsRead, formed_as}
use Rattle.read_fields.proofs.Spans.{fields-none, fields-upto}
use Rattle.read_fields.proofs.fields_end.Goals as goal

pub returns-in_err-r : goal.returns-in_err-r
unfolding row_of
returns-in_err-r c =
    let os = (form (kind_numbered (number c.args.kind))).operands in
    let x = c.in_err-r.ensures os (ap (λ (x : Row). x.operands) c.row_of-row.ensures) in
    subst (FieldsRead (formed_as (number c.args.kind)) c.args.t.now c.args.from) (sym c.from_residual.ensures)
    (fields-none (number c.args.kind) (λ e. omega (arith, e, (bounds c.args.kind).0)) c.args.t.now c.args.from x)

pub returns : goal.returns
unfolding row_of
returns c =
    let os = (form (kind_numbered (number c.args.kind))).operands in
    let x = c.in_ok-r.ensures os (ap (λ (x : Row). x.operands) c.row_of-row.ensures) in
    fields-upto (number c.args.kind) (λ e. omega (arith, e, (bounds c.args.kind).0)) c.args.t.now c.args.from
    _ x _ (ap (λ (x : Row). x.tail) c.row_of-row.ensures) c.tail_end.result c.tail_end.ensures
