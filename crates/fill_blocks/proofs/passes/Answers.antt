use mathlib.Core.Path.{refl, sym, ◌∙◌}
use Rattle.fill_blocks.specs.Blocks.{passes}
use Rattle.fill_blocks.proofs.passes.Goals as goal

pub returns-then-is_looked_at : goal.returns-then-is_looked_at
unfolding passes
returns-then-is_looked_at c =
    sym (rw (sym c.is_looked_at.ensures ∙ c.if-is_looked_at.true) (sym c.accepted.ensures))

pub returns : goal.returns
unfolding passes
returns c =
    sym (rw (sym c.is_looked_at.ensures ∙ c.if-is_looked_at.false) refl)
