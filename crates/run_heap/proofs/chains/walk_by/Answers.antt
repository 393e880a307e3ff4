use Rattle.std.proofs.Common.{sym, ◌∙◌, arith}
use Rattle.run_heap.specs.Views.{answered, stop_of}
use Rattle.run_heap.proofs.Reading.{answered-ok, answered-err}
use Rattle.run_heap.proofs.Walking.{whole-small, free-ok, free-stops, walk-next, walk-stops, walk-taken, walk-over}
use Rattle.run_heap.proofs.chains.walk_by.Goals as goal

pub returns-in_default : goal.returns-in_default
returns-in_default g c test h =
    c.walk_end.ensures ∙ (sym (walk-stops _ _ _ _ _ _ _ _ _ (omega (arith, c.loop-i-test.true)) (free-stops _ _ _ _ _ _ (answered-err _ _ c.in_default.is c.whole_by.ensures))) ∙ c.loop-i.invariant test h)

pub returns-then-not-free : goal.returns-then-not-free
unfolding answered stop_of
returns-then-not-free g c test h =
    sym (walk-taken _ _ _ _ _ _ _ _ _ (omega (arith, c.loop-i-test.true)) (answered-ok _ _ c.in-Ok.is c.whole_by.ensures) (sym (h _ _ c.free.ensures) ∙ c.if-not-free.true)) ∙ c.loop-i.invariant test h

pub cell_value-at-requires : goal.cell_value-at-requires
cell_value-at-requires g c =
    whole-small _ _ _ _ _ c.requires.0.0 (answered-ok _ _ c.in-Ok.is c.whole_by.ensures)

pub loop-i-preserved : goal.loop-i-preserved
loop-i-preserved g c test h =
    rw c.cell_value-at.ensures (walk-next _ _ _ _ _ _ _ _ _ (omega (arith, c.loop-i-test.true)) (free-ok _ _ _ _ _ _ (answered-ok _ _ c.in-Ok.is c.whole_by.ensures) (sym (h _ _ c.free.ensures) ∙ c.if-not-free.false)) ∙ c.loop-i.invariant test h)

pub returns : goal.returns
unfolding answered stop_of
returns g c test h = sym (walk-over _ _ _ _ _ _ _ _ (omega (arith, c.loop-i-test.false))) ∙ c.loop-i.invariant test h
