use Rattle.write_plain.proofs.Tries.{new-tried}
use Rattle.write_plain.proofs.new_row.Goals as goal

pub returns : goal.returns
returns c =
    new-tried c.args.text.now c.args.work.now c.args.c c.args.r c.args.line c.row_if.result c.span_after-a.ensures c.span_after-b.ensures c.variable_at-x.ensures
    c.name_in.ensures c.class_number-k.ensures.0 c.judge_new-v.ensures c.row.ensures c.row_if.ensures
