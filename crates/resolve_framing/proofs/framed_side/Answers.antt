use mathlib.Core.Bool.{true}
use mathlib.Core.List.{List}
use mathlib.Core.Path.{◌≡◌, refl, ◌∙◌}
use Prim.Native.Nat.{ℕ}
use Rattle.rules.specs.Syntax.{path}
use Rattle.rules.specs.Reading.{Access, framed_expr}
use Rattle.tables.specs.declared.Expr.{Expr}
use Rattle.tables.specs.Stores.{meaning}
use Rattle.resolve_framing.proofs.framed_side.Goals as goal

-- `resolve_framing::framed_side` meets its contract. Assumes nothing.
-- not a path
rest : (e : Expr) → ((x f : ℕ) → e ≡ Expr.Path x f → ⊥) → (before : List Access) → true ≡ framed_expr before (meaning e)
unfolding framed_expr meaning
rest (Expr.Num n) k before = refl
rest Expr.Null k before = refl
rest (Expr.Var x) k before = refl
rest (Expr.Path x f) k before = absurd (k x f refl)

of-path : (e : Expr) (x f : ℕ) → e ≡ Expr.Path x f → (before : List Access) → framed_expr before (path x f) ≡ framed_expr before (meaning e)
unfolding meaning
of-path e x f k before = rw k

pub returns-in_default : goal.returns-in_default
returns-in_default c = rest _ c.in_default.not-Path _

pub returns : goal.returns
returns c = c.has_access.ensures ∙ of-path _ _ _ c.in-Path.is _
