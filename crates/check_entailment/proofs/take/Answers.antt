use Rattle.check_state.proofs.Whole.{whole}
use native.Mathlib.Omega.{arith}
use Rattle.check_entailment.proofs.Showing.{serving, access-fits, access-taken, access-left}
use Rattle.check_entailment.proofs.take.Goals as goal

pub overflow_sub-left : goal.overflow_sub-left
overflow_sub-left c =
    let found = rw c.most_serving.ensures at c.entry-i.ensures in
    omega (arith, (serving _ _ (whole c.args.known.now.sound) _ c.requires.0 _ _ _ _ c.requires.1 found c.if-i-known.true).0)

pub returns-then-i-known : goal.returns-then-i-known
returns-then-i-known c =
    let found = rw c.most_serving.ensures at c.entry-i.ensures in
    (access-fits _ _ (whole c.args.known.now.sound) _ c.requires.0 _ _ _ _ c.requires.1 found c.if-i-known.true, access-taken _ _ (whole c.args.known.now.sound) _ c.requires.0 _ _ _ _ c.requires.1 found c.if-i-known.true)

pub returns : goal.returns
returns c =
    let found = rw c.most_serving.ensures at c.entry-i.ensures in
    (c.requires.0, access-left _ _ (whole c.args.known.now.sound) _ c.requires.0 _ _ _ _ c.requires.1 found c.if-i-known.false _ c.shown_by_null.ensures _ c.permitted.ensures)
