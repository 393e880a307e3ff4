use Rattle.write_plain.proofs.Tries.{set-tried}
use Rattle.write_plain.proofs.set_row.Goals as goal

pub returns : goal.returns
returns c =
    set-tried c.args.text.now c.args.work.now c.args.c c.args.r c.args.line c.row_if.result c.span_after-a.ensures c.span_after-b.ensures c.span_after-d.ensures
    c.name_in.ensures c.name_in-2.ensures c.look_path-x.ensures c.variable_at-y.ensures c.judge_set-v.ensures c.row.ensures c.row_if.ensures
