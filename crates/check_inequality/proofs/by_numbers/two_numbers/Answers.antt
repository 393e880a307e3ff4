use Rattle.check_inequality.specs.Ways.{two_numbers}
use mathlib.Core.Path.{sym, ◌∙◌}
use Rattle.check_inequality.proofs.by_numbers.two_numbers.Goals as goal

pub returns-then-number_like : goal.returns-then-number_like
unfolding two_numbers
returns-then-number_like c =
    rw (sym c.number_like.ensures ∙ c.if-number_like.true) c.other_number.ensures

pub returns : goal.returns
unfolding two_numbers
returns c = rw (sym c.number_like.ensures ∙ c.if-number_like.false)
