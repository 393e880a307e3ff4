use native.Mathlib.Omega.{arith}
use Rattle.filler.proofs.Finding.{complete, no-place-left, taken, seeks-without, passed_over}
use Rattle.filler.proofs.+find.Goals as goal

pub returns-then-left-eq0 : goal.returns-then-left-eq0
returns-then-left-eq0 t c =
    complete _ _ _ _ _ _ _ _ c.if-left-eq0.true c.requires c.accepted_with.ensures

pub returns-then-s-p : goal.returns-then-s-p
returns-then-s-p t c =
    no-place-left _ _ _ _ _ _ c.if-left-eq0.false c.if-s-p.true c.requires

pub returns-then-find : goal.returns-then-find
returns-then-find t c =
    taken _ _ _ _ _ _ c.if-left-eq0.false c.if-s-p.false c.requires _ _ c.choose.ensures _ _ _ c.find.ensures c.if-find.true

pub find-requires-2 : goal.find-requires-2
find-requires-2 t c =
    (omega (arith, c.if-s-p.false), seeks-without _ _ _ _ _ _ c.if-left-eq0.false c.if-s-p.false c.requires _ _ c.choose.ensures _ _ _ c.find.ensures c.if-find.false)

pub returns : goal.returns
returns t c =
    passed_over _ _ _ _ _ _ c.if-left-eq0.false c.if-s-p.false c.requires _ _ c.choose.ensures _ _ _ c.find.ensures c.if-find.false _ _ _ c.find-2.ensures
