use mathlib.Core.Path.{subst}
use Rattle.read_fields.specs.Spans.{FieldsRead, formed_as}
use Rattle.read_fields.proofs.Spans.{formed-none}
use Rattle.read_scan.proofs.line_fields.Goals as goal

-- `line_fields` meets its contract. Assumes nothing.
pub returns-then-w-eq0 : goal.returns-then-w-eq0
returns-then-w-eq0 c = formed-none c.args.w.kind _ c.if-w-eq0.true

pub returns : goal.returns
returns c =
    subst (λ k. FieldsRead (formed_as k) c.args.t.now c.args.w.end c.fields_end.result) c.numbered.ensures c.fields_end.ensures
