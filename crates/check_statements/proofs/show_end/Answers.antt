use Rattle.check_statements.proofs.Ruled.{end-returned}
use Rattle.check_statements.proofs.show_end.Goals as goal

pub returns-then-returned : goal.returns-then-returned
returns-then-returned c = end-returned _ _ _ c.if-returned.true
