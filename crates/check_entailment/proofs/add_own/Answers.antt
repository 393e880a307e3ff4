use Rattle.check_entailment.proofs.Adding.{own-atom, own-listed}
use Rattle.check_state.specs.States.{permit_of, state_of}
use Rattle.check_entailment.proofs.add_own.Goals as goal

pub returns-then-k-eq-READ : goal.returns-then-k-eq-READ
unfolding permit_of
returns-then-k-eq-READ c =
    (rw c.if-k-eq-READ.true (own-atom c.args.known.now.keys c.args.known.now.bytes _ _ _ _ _ _ c.add_read.ensures.0), c.add_read.ensures.1)

pub returns : goal.returns
returns c = (
  own-atom c.args.known.now.keys c.args.known.now.bytes _ _ _ _ _ _
      (rw (own-listed c.args.k c.args.x c.args.f (state_of c.args.known.now.keys c.args.known.now.bytes) c.requires c.if-k-eq-READ.false) at c.add_entry.ensures.0),
  c.add_entry.ensures.1,
)
