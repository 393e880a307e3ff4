use mathlib.Core.Path.{sym, ◌∙◌}
use native.Mathlib.Omega.{arith}
use Rattle.fill_blocks.proofs.Calling.{methods-are}
use Rattle.fill_blocks.proofs.Passing.{all-to-come, none-to-come, one_passes, one-fails}
use Rattle.fill_blocks.proofs.others_pass.Goals as goal

pub loop-j-init : goal.loop-j-init
loop-j-init c = all-to-come _ _ _

pub returns-then-not-passes : goal.returns-then-not-passes
returns-then-not-passes c =
    sym (c.loop-j.invariant ∙ one-fails _ _ _ _ _ (c.method_count-j-end.ensures.0 ∙ sym (methods-are _ 0)) c.loop-j-test.true (sym c.passes.ensures ∙ c.if-not-passes.true))

pub loop-j-preserved : goal.loop-j-preserved
loop-j-preserved c =
    c.loop-j.invariant ∙ one_passes _ _ _ _ _ (c.method_count-j-end.ensures.0 ∙ sym (methods-are _ 0)) c.loop-j-test.true (sym c.passes.ensures ∙ c.if-not-passes.false)

-- the last block is looked at
pub returns-else-not-passes : goal.returns-else-not-passes
returns-else-not-passes c =
    let n = c.method_count-j-end.ensures.0 ∙ sym (methods-are _ 0) in
    sym (c.loop-j.invariant ∙ one_passes _ _ _ _ _ n c.loop-j-test.true (sym c.passes.ensures ∙ c.if-not-passes.false) ∙ none-to-come _ _ _ _ _ n (omega arith))
