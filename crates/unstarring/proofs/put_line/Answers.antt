use mathlib.Core.Path.{sym, refl, ◌∙◌}
use native.Mathlib.Omega.{arith}
use Rattle.rules.specs.Base.{bytes}
use Rattle.rules.specs.Fill.{requires_line, tabbed}
use Rattle.unstarring.proofs.Lines.{starred-long, star-copied, line-copied}
use Rattle.unstarring.proofs.put_line.Goals as goal

pub put-len-requires : goal.put-len-requires
put-len-requires c =
    omega (arith, starred-long _ (sym c.is_starred.ensures ∙ c.if-is_starred.true), c.requires)

pub returns-then-is_starred : goal.returns-then-is_starred
unfolding requires_line tabbed bytes
returns-then-is_starred c =
    star-copied c.put-len.ensures.2 (sym c.is_starred.ensures ∙ c.if-is_starred.true) c.put-len.ensures.0 c.put-len.ensures.1 c.with_star.ensures

pub returns : goal.returns
returns c =
    line-copied c.put-len-2.ensures.2 (sym c.is_starred.ensures ∙ c.if-is_starred.false) c.put-len-2.ensures.0 c.put-len-2.ensures.1 refl
