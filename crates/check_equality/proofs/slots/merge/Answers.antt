use Prim.Native.Nat.{ℕ, ◌+◌, ◌<◌}
use Rattle.check_equality.specs.Links.{picked}
use Rattle.rules.proofs.Lists.{decide_eq}
use lib.ListN.{length, get_or, set, length-set}
use lib.Seq.{get_or-set_same, get_or-set_other}
use mathlib.Core.List.{List}
use mathlib.Core.Logic.{⊎_elim}
use mathlib.Core.Path.{◌≡◌, ap, ◌∙◌}
use native.Mathlib.Omega.{arith}
use Rattle.check_equality.proofs.slots.merge.Goals as goal

-- one more label is picked
picked_more : (from to : ℕ) (old l : List ℕ) (i n : ℕ) → i < length l → ((j : ℕ) → j < i → get_or l j 0 ≡ picked from to (get_or old j 0)) →
    n ≡ picked from to (get_or old i 0) → (j : ℕ) → j < i + 1 → get_or (set l i n) j 0 ≡ picked from to (get_or old j 0)
picked_more from to old l i n h before e j g = ⊎_elim here there (decide_eq j i)
  where
    here : j ≡ i → get_or (set l i n) j 0 ≡ picked from to (get_or old j 0)
    here d = rw d (get_or-set_same l i n 0 h ∙ e)

    there : (j ≡ i → ⊥) → get_or (set l i n) j 0 ≡ picked from to (get_or old j 0)
    there d = get_or-set_other l i j n 0 d ∙ before j (omega arith)

pub loop-i-preserved : goal.loop-i-preserved
unfolding picked
loop-i-preserved c = (
  length-set c.loop-i.label c.loop-i.i _ ∙ c.loop-i.invariant.0,
  c.loop-i.invariant.1,
  picked_more c.args.from c.args.to c.args.label.now c.loop-i.label c.loop-i.i _ (omega (arith, c.loop-i.invariant.0)) c.loop-i.invariant.2
      (c.pick.ensures ∙ ap (picked c.args.from c.args.to) (c.loop-i.invariant.3 c.loop-i.i (omega arith))),
  λ j h. get_or-set_other c.loop-i.label c.loop-i.i j _ 0 (omega arith) ∙ c.loop-i.invariant.3 j (omega arith),
)
