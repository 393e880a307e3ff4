use Rattle.run_heap.specs.Views.{answered, held_cell, stop_of}
use Rattle.rules.specs.Base.{◌>>◌, check}
use Rattle.std.proofs.Common.{sym, ◌∙◌}
use Rattle.run_heap.proofs.holders.held_cell.Goals as goal

pub returns-then-holds : goal.returns-then-holds
unfolding answered held_cell check ◌>>◌
returns-then-holds c = rw (sym c.holds.ensures ∙ c.if-holds.true)

pub returns : goal.returns
unfolding answered held_cell check ◌>>◌ stop_of
returns c = rw (sym c.holds.ensures ∙ c.if-holds.false)
