use Rattle.read_names.proofs.Searches.{here, on, over}
use mathlib.Core.Path.{◌≡◌, sym, ◌∙◌}
use native.Mathlib.Omega.{arith}
use Rattle.read_names.proofs.find_each.Goals as goal

pub returns-then-is_row : goal.returns-then-is_row
returns-then-is_row c = (here _ _ _ _ _ c.loop-i.invariant c.loop-i-test.true (sym c.is_row.ensures ∙ c.if-is_row.true), omega arith)

pub loop-i-preserved : goal.loop-i-preserved
loop-i-preserved c = on _ _ _ _ _ c.loop-i.invariant c.loop-i-test.true (sym c.is_row.ensures ∙ c.if-is_row.false)

pub returns : goal.returns
returns c =
    let z : c.loop-i.i ≡ c.args.count = omega arith in
    (sym z ∙ over _ _ _ _ _ c.loop-i.invariant c.loop-i-test.false, omega arith)
