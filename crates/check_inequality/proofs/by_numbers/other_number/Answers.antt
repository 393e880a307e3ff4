use Rattle.check_inequality.specs.Ways.{other_number}
use Rattle.check_equality.proofs.Listing.{any_none, any-past, any_found}
use mathlib.Core.Path.{◌≡◌, sym, ◌∙◌}
use native.Mathlib.Omega.{arith}
use Rattle.check_inequality.proofs.by_numbers.other_number.Goals as goal

pub loop-i-init : goal.loop-i-init
loop-i-init c = any_none _ _

pub returns-then-other_like : goal.returns-then-other_like
unfolding other_number
returns-then-other_like c =
    sym (any_found _ (λ i. i) _ c.loop-i.i c.loop-i-test.true (sym c.other_like.ensures ∙ c.if-other_like.true))

pub loop-i-preserved : goal.loop-i-preserved
loop-i-preserved c =
    any-past _ (λ i. i) _ c.loop-i.invariant (sym c.other_like.ensures ∙ c.if-other_like.false)

pub returns : goal.returns
unfolding other_number
returns c =
    let e : c.loop-i.i ≡ c.args.n = omega arith in sym (rw e at c.loop-i.invariant)
