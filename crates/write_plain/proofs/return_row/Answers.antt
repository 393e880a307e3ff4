use borrow.Author.Tests.{le-ltb, lt-ltb}
use Rattle.rules.specs.Base.{bytes}
use Rattle.write_plain.specs.Plain.{RowTried}
use Rattle.write_plain.proofs.Tries.{return-unknown, return-tried}
use Rattle.write_plain.proofs.return_row.Goals as goal

pub returns-then-x-ge-NO_VARIABLE : goal.returns-then-x-ge-NO_VARIABLE
unfolding RowTried
returns-then-x-ge-NO_VARIABLE c =
    return-unknown c.args.text.now c.args.work.now c.args.c c.args.r c.args.line c.span_after-a.ensures c.variable_at-x.ensures (le-ltb _ _ c.if-x-ge-NO_VARIABLE.true)

pub returns : goal.returns
unfolding bytes
returns c =
    return-tried c.args.text.now c.args.work.now c.args.c c.args.r c.args.line c.span_after-a.ensures c.variable_at-x.ensures c.variable_type-result.result c.row_if.result
    (lt-ltb _ _ c.if-x-ge-NO_VARIABLE.false) c.variable_type-result.ensures c.type_of.ensures c.same_name-same.ensures c.test-v.ensures c.row.ensures c.row_if.ensures
