use Rattle.write_plain.proofs.Tries.{call-tried}
use Rattle.write_plain.proofs.calls.call_row.Goals as goal

pub returns : goal.returns
returns c =
    call-tried c.args.text.now c.args.work.now c.args.c c.args.r c.args.line c.row_if.result
    c.span_after-a.ensures
    c.span_after-b.ensures
    c.span_after-d.ensures
    c.span_after-e.ensures c.variable_at-x.ensures
    c.variable_at-y.ensures c.variable_at-z.ensures
    c.type_of-class.ensures c.name_in.ensures
    c.method_number-m.ensures.0 c.judge_call-v.ensures c.row.ensures c.row_if.ensures
