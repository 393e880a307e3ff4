use Rattle.check_equality.proofs.Listing.{any-past, any_found}
use mathlib.Core.Path.{sym, ◌∙◌}
use Rattle.check_inequality.proofs.by_facts.unequal_from.Goals as goal

pub returns-then-unequal_at : goal.returns-then-unequal_at
returns-then-unequal_at c =
    sym (any_found _ (λ i. i) _ c.loop-i.i c.loop-i-test.true (sym c.unequal_at.ensures ∙ c.if-unequal_at.true))

pub loop-i-preserved : goal.loop-i-preserved
loop-i-preserved c =
    any-past _ (λ i. i) _ c.loop-i.invariant (sym c.unequal_at.ensures ∙ c.if-unequal_at.false)
