use mathlib.Core.Path.{◌∙◌}
use Rattle.machine.proofs.begin.Goals as goal

pub returns : goal.returns
returns c = (c.new.ensures ∙ rw c.main_first-row.ensures.0, c.fill_words.ensures)
