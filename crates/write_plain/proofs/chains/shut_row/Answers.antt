use Rattle.write_plain.proofs.Tries.{shut-tried}
use Rattle.write_plain.proofs.chains.shut_row.Goals as goal

pub returns : goal.returns
returns c =
    shut-tried c.args.text.now c.args.work.now c.args.c c.args.r c.args.line c.row_if.result c.span_after-a.ensures c.span_after-b.ensures
    c.chain_at-x.ensures c.row.ensures c.row_if.ensures
