use Rattle.check_equality.proofs.Listing.{any_none, any-past, any_found}
use mathlib.Core.Path.{sym, ◌∙◌}
use Rattle.check_inequality.proofs.by_numbers.different_numbers.Goals as goal

pub loop-i-init : goal.loop-i-init
loop-i-init c = any_none _ _

pub returns-then-two_numbers : goal.returns-then-two_numbers
returns-then-two_numbers c =
    sym (any_found _ (λ i. i) _ c.loop-i.i c.loop-i-test.true (sym c.two_numbers.ensures ∙ c.if-two_numbers.true))

pub loop-i-preserved : goal.loop-i-preserved
loop-i-preserved c =
    any-past _ (λ i. i) _ c.loop-i.invariant (sym c.two_numbers.ensures ∙ c.if-two_numbers.false)
