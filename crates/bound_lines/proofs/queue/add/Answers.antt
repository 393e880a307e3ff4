use native.Mathlib.Omega.{arith}
use Rattle.bound_lines.specs.Reach.{pushed}
use Rattle.bound_lines.proofs.Seeks.{add-there, add-full, add-new}
use Rattle.bound_lines.proofs.queue.add.Goals as goal

pub returns-then-has-c : goal.returns-then-has-c
returns-then-has-c c = add-there _ _ c.if-has-c.true

pub returns-then-at-ge-METHODS : goal.returns-then-at-ge-METHODS
returns-then-at-ge-METHODS c = add-full _ _ c.if-has-c.false c.if-at-ge-METHODS.true

pub returns : goal.returns
unfolding pushed
returns c = add-new _ _ c.if-has-c.false (omega arith)
