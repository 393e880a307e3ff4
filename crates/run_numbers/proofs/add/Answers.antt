use mathlib.Core.Path.{sym, ◌∙◌}
use Rattle.rules.specs.Syntax.{sum}
use Rattle.rules.specs.Machine.{raised}
use Rattle.run_numbers.specs.Computing.{computed_is}
use Rattle.run_numbers.proofs.Computing.{computed_value, computed-stop, low_sum}
use Rattle.run_numbers.proofs.add.Goals as goal

pub returns-then-in_range : goal.returns-then-in_range
unfolding computed_is raised
returns-then-in_range c =
    computed_value sum _ _ _ (rw (c.offset.ensures.0, c.offset-2.ensures.0)) (sym c.in_range.ensures ∙ c.if-in_range.true) (low_sum _ _)

pub returns : goal.returns
unfolding computed_is raised
returns c =
    computed-stop sum _ _ _ (rw (c.offset.ensures.0, c.offset-2.ensures.0)) (sym c.in_range.ensures ∙ c.if-in_range.false)
