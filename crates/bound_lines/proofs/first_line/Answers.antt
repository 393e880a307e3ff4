use mathlib.Core.Path.{◌∙◌}
use native.Mathlib.Omega.{arith}
use Rattle.bound_lines.proofs.Firsts.{place-whole, place_here, place-later, place-main}
use Rattle.bound_lines.proofs.first_line.Goals as goal

pub loop-a-init : goal.loop-a-init
loop-a-init c = place-whole _

pub returns-in-Some : goal.returns-in-Some
returns-in-Some c =
    place_here _ _ (omega (arith, c.method_count-a-end.ensures.0)) _ c.first_row_at.ensures.0 _ c.first_in.ensures _ c.in-Some.is ∙ c.loop-a.invariant

pub loop-a-preserved : goal.loop-a-preserved
loop-a-preserved c =
    place-later _ _ (omega (arith, c.method_count-a-end.ensures.0)) _ c.first_row_at.ensures.0 _ c.first_in.ensures c.in_default.is ∙ c.loop-a.invariant

pub returns : goal.returns
returns c =
    c.first_in-2.ensures ∙ place-main _ _ _ (omega (arith, c.method_count-a-end.ensures.0)) c.main_first.ensures.0 ∙ c.loop-a.invariant
