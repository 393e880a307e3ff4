use mathlib.Core.Path.{◌∙◌}
use Rattle.run_calls.proofs.enter.Goals as goal

pub first_row_at-row-requires : goal.first_row_at-row-requires
first_row_at-row-requires c =
    c.requires.method_fits

pub mark-requires : goal.mark-requires
mark-requires c =
    ((c.requires.readable, c.requires.count), c.requires.fit)

pub returns : goal.returns
returns c =
    (c.if-c.false, c.mark.ensures ∙ rw c.requires.view, c.call_in.ensures ∙ rw c.first_row_at-row.ensures.0)
