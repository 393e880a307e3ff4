use mathlib.Core.Path.{◌≡◌, refl, sym, ap, ◌∙◌}
use mathlib.Core.Bool.{Bool, true, false, not, cond, beq}
use borrow.Author.Tests.{eq-eqb, ne_eqb}
use Rattle.fill_blocks.specs.Blocks.{calls_from, is_looked_at}
use Rattle.fill_blocks.proofs.is_looked_at.Goals as goal

either : (a b : Bool) → beq a b ≡ cond b a (not a)
either true true = refl
either true false = refl
either false true = refl
either false false = refl

pub returns-then-j-m : goal.returns-then-j-m
unfolding is_looked_at
returns-then-j-m c = sym (rw (eq-eqb _ _ c.if-j-m.true) refl)

pub returns : goal.returns
unfolding is_looked_at
returns c =
    ap (λ (b : Bool). beq b c.args.calling) (c.calls.ensures ∙ ap (calls_from _ _) c.first_row.ensures.0)
    ∙ either _ _ ∙ sym (rw (ne_eqb _ _ c.if-j-m.false) refl)
