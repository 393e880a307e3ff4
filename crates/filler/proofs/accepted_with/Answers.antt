use Rattle.filler.proofs.Keeping.{own-accepted, own-refused}
use Rattle.filler.proofs.accepted_with.Goals as goal

-- `filler::accepted_with` meets its contract. Assumes nothing.
pub returns-then-accepted : goal.returns-then-accepted
returns-then-accepted c =
    own-accepted _ _ _ c.requires.0 _ c.put_set.ensures _ _ c.if-accepted.true c.accepted.ensures c.others_pass.ensures

pub returns : goal.returns
returns c =
    own-refused _ _ _ c.requires.0 _ c.put_set.ensures _ c.if-accepted.false c.accepted.ensures
