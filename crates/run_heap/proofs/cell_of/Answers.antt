use Rattle.run_heap.proofs.Reading.{cell-beyond, found-next}
use Rattle.run_heap.specs.Views.{answered, present, found_of, stop_of}
use Rattle.rules.specs.Base.{◌>>◌, check}
use Rattle.std.proofs.Common.{sym, ◌∙◌}
use Rattle.run_heap.proofs.cell_of.Goals as goal

pub returns-then-o-eq0 : goal.returns-then-o-eq0
unfolding answered found_of stop_of check ◌>>◌
returns-then-o-eq0 c = rw c.if-o-eq0.true

pub returns-then-v-i : goal.returns-then-v-i
unfolding answered present stop_of
returns-then-v-i c = rw (found-next _ _ _ _ c.if-o-eq0.false, cell-beyond _ _ _ _ c.if-v-i.true)

pub returns : goal.returns
returns c = c.cell_at.ensures ∙ sym (found-next _ _ _ _ c.if-o-eq0.false)
