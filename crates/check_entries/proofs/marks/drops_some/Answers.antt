use Rattle.check_equality.proofs.Listing.{any_none, any-past, any_found}
use mathlib.Core.Path.{sym, ◌∙◌}
use Rattle.check_entries.proofs.marks.drops_some.Goals as goal

pub loop-i-init : goal.loop-i-init
loop-i-init c = any_none _ _

pub returns-then-drops_entry : goal.returns-then-drops_entry
returns-then-drops_entry c =
    sym (any_found _ (λ i. i) _ c.loop-i.i c.loop-i-test.true (sym c.drops_entry.ensures ∙ c.if-drops_entry.true))

pub loop-i-preserved : goal.loop-i-preserved
loop-i-preserved c =
    any-past _ (λ i. i) _ c.loop-i.invariant (sym c.drops_entry.ensures ∙ c.if-drops_entry.false)
