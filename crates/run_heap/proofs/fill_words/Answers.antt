use Rattle.std.proofs.Common.{sym, ◌∙◌}
use Rattle.run_heap.proofs.Words.{fill-next, fill_end}
use Rattle.run_heap.proofs.fill_words.Goals as goal

pub loop-i-preserved : goal.loop-i-preserved
loop-i-preserved c = (c.put_word.auto.w ∙ c.loop-i.invariant.0, rw c.put_word.ensures (fill-next _ _ _ _ _ c.loop-i-test.true ∙ c.loop-i.invariant.1))

pub returns : goal.returns
returns c = sym (fill_end _ _ _ _ _ c.loop-i-test.false) ∙ c.loop-i.invariant.1
