use Rattle.std.proofs.Common.{sym, ◌∙◌, arith}
use Rattle.rules.specs.Base.{◌>>◌, check}
use Rattle.run_heap.specs.Views.{answered, stop_of, found_of}
use Rattle.run_heap.proofs.Walking.{found-object, found-beyond}
use Rattle.run_heap.proofs.chains.cell_by.Goals as goal

pub returns-then-i-v : goal.returns-then-i-v
returns-then-i-v c =
    c.cell_in.ensures ∙ sym (found-object _ _ _ _ _ (omega (arith, c.requires.0.0.objects, c.if-i-v.true)) c.wrapping_sub_u32-i.ensures.value)

pub returns-then-o-eq0 : goal.returns-then-o-eq0
unfolding answered found_of stop_of check ◌>>◌
returns-then-o-eq0 c = rw c.if-o-eq0.true

pub returns : goal.returns
unfolding answered stop_of
returns c =
    sym (found-beyond _ _ _ _ _ c.wrapping_sub_u32-i.type_inv c.if-o-eq0.false c.if-i-v.false c.wrapping_sub_u32-i.ensures.value)
