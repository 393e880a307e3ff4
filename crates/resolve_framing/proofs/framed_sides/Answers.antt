use mathlib.Core.Path.{sym, ◌∙◌}
use Rattle.resolve_framing.proofs.framed_sides.Goals as goal

pub returns-then-not-framed_side : goal.returns-then-not-framed_side
returns-then-not-framed_side c = rw (← c.left_at.ensures, sym c.framed_side.ensures ∙ c.if-not-framed_side.true)

pub returns : goal.returns
returns c = rw (← c.left_at.ensures, ← c.right_at.ensures, sym c.framed_side.ensures ∙ c.if-not-framed_side.false) c.framed_side-2.ensures
