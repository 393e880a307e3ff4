use Rattle.check_successors.specs.Successors.{with_slot}
use Rattle.check_successors.proofs.Least.{like-number, lower-numbered}
use mathlib.Core.Path.{sym, ap, ◌∙◌}
use Rattle.std.specs.Prelude.{Some}
use Rattle.check_successors.proofs.number_step.Goals as goal

pub lower-requires : goal.lower-requires
lower-requires c = (like-number _ _ _ _ (sym c.number_like.ensures ∙ c.if-number_like.true), c.requires)

pub returns-then-number_like : goal.returns-then-number_like
unfolding with_slot
returns-then-number_like c = (
  rw (sym c.number_like.ensures ∙ c.if-number_like.true) (ap Some c.lower.ensures),
  rw c.lower.ensures (lower-numbered _ _ (like-number _ _ _ _ (sym c.number_like.ensures ∙ c.if-number_like.true)) c.requires),
)

pub returns : goal.returns
unfolding with_slot
returns c = (rw (sym c.number_like.ensures ∙ c.if-number_like.false), c.requires)
