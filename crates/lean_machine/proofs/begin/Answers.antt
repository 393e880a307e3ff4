use Rattle.lean_machine.proofs.begin.Goals as goal

pub returns : goal.returns
returns c = (rw c.main_first-row.ensures.0, c.fill_words.ensures)
