use Rattle.check_inequality.proofs.Searches.{any-on, equal-block}
use Rattle.check_equality.proofs.Listing.{any_none}
use Prim.Native.Nat.{◌+◌, ◌*◌}
use mathlib.Core.Path.{◌≡◌, sym, ◌∙◌}
use native.Mathlib.Omega.{arith}
use Rattle.check_inequality.proofs.by_facts.listed_unequal.Goals as goal
use Rattle.check_inequality.proofs.by_facts.listed_unequal.Goals.{then-some_unequal+else-unequal_from, else-some_unequal}

pub loop-g-init : goal.loop-g-init
loop-g-init c = any_none _ _

pub returns-then-unequal_from : goal.returns-then-unequal_from
returns-then-unequal_from c =
    sym (any-on _ (λ i. i) _ c.args.n (omega arith) (sym c.unequal_from.ensures ∙ c.if-unequal_from.true))

pub loop-g-preserved : goal.loop-g-preserved
loop-g-preserved c =
    let e : c.loop-g.g * 8 + 8 ≡ (c.loop-g.g + 1) * 8 = omega arith in
    elim c.if-some_unequal.branch [
      | then-some_unequal+else-unequal_from w ↦ rw e at (sym w.unequal_from.ensures ∙ w.if-unequal_from.false)
      | else-some_unequal w ↦
          rw e at (equal-block c.args.b.now c.args.x c.args.y (c.loop-g.g * 8) c.loop-g.invariant (sym c.some_unequal.ensures ∙ w.if-some_unequal.false))
    ]
