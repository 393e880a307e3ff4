use Rattle.run_heap.proofs.Halves.{both-held, not-both}
use Rattle.std.proofs.Common.{rules}
use Rattle.run_heap.proofs.holders.holds_whole.Goals as goal

pub returns-then-a-b : goal.returns-then-a-b
returns-then-a-b c = both-held _ _ _ _ _ c.first_holder-a.ensures c.second_holder-b.ensures (search rules) (search rules) c.if-a-b.true

pub returns : goal.returns
returns c = not-both _ _ _ _ _ c.first_holder-a.ensures c.second_holder-b.ensures (search rules) (search rules) c.if-a-b.false
