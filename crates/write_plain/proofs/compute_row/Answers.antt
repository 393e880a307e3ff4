use Rattle.write_plain.proofs.Tries.{compute-tried}
use Rattle.write_plain.proofs.compute_row.Goals as goal

pub returns : goal.returns
returns c =
    rw c.number_of.ensures at (compute-tried c.args.text.now c.args.work.now c.args.c c.args.r c.args.line c.row_if.result c.span_after-a.ensures c.span_after-b.ensures c.span_after-d.ensures
    c.variable_at-x.ensures c.variable_at-y.ensures c.variable_at-z.ensures c.judge_compute-v.ensures c.row.ensures c.row_if.ensures)
