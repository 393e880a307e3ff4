-- The expression that an answer about a field stands for.
use Rattle.std.specs.Prelude.{◌≡◌, suc, ◌<◌, length, take, drop}
use Rattle.rules.specs.Base.{Name}
use Rattle.rules.specs.Syntax as Syntax
use Rattle.rules.specs.Syntax.{num, null, var, path}
use Rattle.rules.specs.Text.{expr_of, stop_in}
use Rattle.read_tokens.specs.declared.Expr.{Expr}
use Rattle.read_tokens.specs.declared.Expr.TheVariants.{Num, Null, Var, Path}

-- the expression that an answer stands for, of the field w: a variable is the whole field, a path has its full stop at a place of it
abbrev pub meant : Name → Expr → Syntax.Expr Name
meant w (Num n) = num n
meant w Null = null
meant w Var = var w
meant w (Path d) = path (take d w) (drop (suc d) w)

-- the place of a path's full stop
abbrev pub stands : Name → Expr → Type 0
stands w (Num n) = Unit {0}
stands w Null = Unit {0}
stands w Var = Unit {0}
stands w (Path d) = (d ≡ stop_in w) × (d < length w)

pub record Reads (w : Name) (e : Expr) : Type 0 where
  pub means : meant w e ≡ expr_of w
  pub place : stands w e
