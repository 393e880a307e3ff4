use Rattle.write_plain.proofs.Tries.{open-tried}
use Rattle.write_plain.proofs.chains.open_row.Goals as goal

pub returns : goal.returns
returns c =
    open-tried c.args.text.now c.args.work.now c.args.c c.args.r c.args.line c.row_if.result c.span_after-a.ensures c.span_after-b.ensures
    c.span_after-d.ensures c.chain_at-x.ensures c.variable_at-y.ensures c.judge_open-v.ensures c.row.ensures c.row_if.ensures
