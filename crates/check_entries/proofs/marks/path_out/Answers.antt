use Rattle.check_entries.specs.PathsOut.{path_out}
use Rattle.check_equality.proofs.Keys.{same_key}
use mathlib.Core.Path.{sym}
use Rattle.check_entries.proofs.marks.path_out.Goals as goal

pub returns-then-out : goal.returns-then-out
unfolding path_out
returns-then-out c = rw (c.if-out.true, ← c.path_key.ensures.0) (sym (same_key _ _))

pub returns : goal.returns
unfolding path_out
returns c = rw c.if-out.false
