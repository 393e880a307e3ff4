use Rattle.bound_lines.proofs.Firsts.{main-call, call_back, call-away}
use Rattle.bound_lines.proofs.look_call.Goals as goal

pub returns-then-q-a : goal.returns-then-q-a
returns-then-q-a c = rw c.in-Some.is (call_back _ _ _ _ (c.reach-q.ensures _) c.if-q-a.true)

pub returns-in_default : goal.returns-in_default
returns-in_default c = rw c.in_default.is (main-call _ _)

pub returns : goal.returns
returns c = rw c.in-Some.is (call-away _ _ _ _ (c.reach-q.ensures _) c.if-q-a.false)
