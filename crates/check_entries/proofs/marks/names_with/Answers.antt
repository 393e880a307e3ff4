use Rattle.check_equality.proofs.Listing.{any_none, any-past, any_found}
use mathlib.Core.Path.{◌≡◌, sym, ◌∙◌}
use native.Mathlib.Omega.{arith}
use Rattle.check_entries.proofs.marks.names_with.Goals as goal

pub loop-i-init : goal.loop-i-init
loop-i-init g c = λ kept T. any_none _ _

pub returns-then-path_out : goal.returns-then-path_out
returns-then-path_out g c =
    λ kept T. sym (any_found _ (λ i. i) _ c.loop-i.i c.loop-i-test.true (sym (rw (T _ _ c.counts.ensures) at c.path_out.ensures) ∙ c.if-path_out.true))

pub loop-i-preserved : goal.loop-i-preserved
loop-i-preserved g c =
    λ kept T. any-past _ (λ i. i) _ (c.loop-i.invariant kept T) (sym (rw (T _ _ c.counts.ensures) at c.path_out.ensures) ∙ c.if-path_out.false)

pub returns : goal.returns
returns g c = λ kept T. let e : c.loop-i.i ≡ c.args.n = omega arith in sym (rw e at (c.loop-i.invariant kept T))
