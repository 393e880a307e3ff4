use Prim.Native.Nat.{ℕ, ◌+◌, ◌*◌}
use Rattle.check_equality.specs.Links.{Marked}
use mathlib.Core.Bool.{Bool}
use mathlib.Core.List.{List}
use mathlib.Core.Path.{◌≡◌, refl, subst}
use native.Mathlib.Omega.{arith}
use Rattle.check_labels.proofs.Rebuilding.{keeps-fact}
use Rattle.check_equality.specs.Layout.{left_sides}
use Rattle.check_labels.proofs.anew.keep_fact.Goals as goal

marks-on : (n : ℕ) (key : List ℕ) (marks : List Bool) → Marked key marks (left_sides + 2 * n + 2) → Marked key marks (left_sides + 2 * (n + 1))
marks-on n key marks M = let e : left_sides + 2 * n + 2 ≡ left_sides + 2 * (n + 1) = omega arith in subst (λ (m : ℕ). Marked key marks m) e M

pub returns : goal.returns
returns c =
    (rw c.if-out.false (keeps-fact _ _ _ _ _ _ c.requires.1 c.requires.0 _ _ _ refl c.push_marked.ensures.0), marks-on _ _ _ c.push_marked.ensures.1)
