use Prim.Native.Nat.{ℕ}
use Rattle.check_state.specs.Questions.{passes}
use Rattle.rules.specs.Syntax.{var}
use Rattle.rules.specs.State as Rules
use Rattle.rules.specs.State.{Equality}
use lib.Dec.{eqb}
use borrow.Author.Count.{below_more}
use borrow.Author.Tests.{eq-eqb, ne_eqb}
use mathlib.Core.Bool.{Bool, true, false, ◌&&◌}
use mathlib.Core.Path.{◌≡◌, refl, sym, ◌∙◌}
use native.Mathlib.Omega.{arith}
use Rattle.check_state.proofs.find.Goals as goal
use Rattle.check_state.proofs.find.Goals.{then-known-i+else-names, else-known-i}

module _ (same : Equality) (t : Rules.Term) (g x f : ℕ) where
  by_field : (serves : Bool) → eqb f g ≡ true → passes same t g serves x f ≡ (serves && same (var x) t)
  unfolding passes
  by_field serves e = rw e

  by-other : (serves : Bool) → eqb f g ≡ false → passes same t g serves x f ≡ false
  unfolding passes
  by-other true e = rw e
  by-other false e = refl

pub returns-then-names : goal.returns-then-names
returns-then-names c =
    λ fs D.
    record {
      within = omega arith;
      before = c.loop-i.invariant fs D;
      found = λ _. by_field _ _ _ _ _ _ (eq-eqb _ _ c.if-known-i.true) ∙ sym (rw c.in_range.ensures at (c.names.ensures fs D)) ∙ c.if-names.true;
    }

pub loop-i-preserved : goal.loop-i-preserved
loop-i-preserved c =
    λ fs D. below_more _ _ (c.loop-i.invariant fs D) (elim c.if-known-i.branch [
      | then-known-i+else-names w ↦ by_field _ _ _ _ _ _ (eq-eqb _ _ w.if-known-i.true) ∙ sym (rw w.in_range.ensures at (w.names.ensures fs D)) ∙ w.if-names.false
      | else-known-i w ↦ by-other _ _ _ _ _ _ (ne_eqb _ _ w.if-known-i.false)
    ])
