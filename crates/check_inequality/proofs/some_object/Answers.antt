use Rattle.check_state.specs.States.{permission_at}
use Rattle.check_equality.proofs.Listing.{any_none, any-past, any_found}
use mathlib.Core.Path.{sym, ◌∙◌}
use Rattle.check_inequality.proofs.some_object.Goals as goal

pub loop-i-init : goal.loop-i-init
loop-i-init c = λ fs D. any_none _ _

pub returns-then-is_object : goal.returns-then-is_object
returns-then-is_object c =
    λ fs D. sym (any_found _ (permission_at c.args.known.now.bytes) _ c.loop-i.i c.loop-i-test.true (sym (c.is_object.ensures fs D) ∙ c.if-is_object.true))

pub loop-i-preserved : goal.loop-i-preserved
loop-i-preserved c =
    λ fs D. any-past _ (permission_at c.args.known.now.bytes) _ (c.loop-i.invariant fs D) (sym (c.is_object.ensures fs D) ∙ c.if-is_object.false)
