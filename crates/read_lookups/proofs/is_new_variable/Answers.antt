use Rattle.read_lookups.proofs.LookUps.{new-in-method, new-in-main}
use mathlib.Core.Path.{◌∙◌}
use Rattle.read_lookups.proofs.is_new_variable.Goals as goal

pub returns-then-c : goal.returns-then-c
returns-then-c c = c.is_new.ensures ∙ new-in-method _ _ _ _ c.if-c.true

pub returns : goal.returns
returns c = c.is_new-2.ensures ∙ new-in-main _ _ _ _ c.if-c.false
