use Rattle.run_heap.proofs.Reading.{answered-ok, answered-err}
use Rattle.run_footprint.specs.Footprints.{ends_by, end_matches}
use Rattle.run_footprint.proofs.chains.ends_by.Goals as goal

pub returns-in-Ok : goal.returns-in-Ok
unfolding ends_by end_matches
returns-in-Ok c =
    rw (← c.chain_by.ensures, c.if-chain_by.true, ← c.start_of.ensures, answered-ok _ _ c.in-Ok.is c.walk.ensures)

pub returns-in-Err : goal.returns-in-Err
unfolding ends_by end_matches
returns-in-Err c =
    rw (← c.chain_by.ensures, c.if-chain_by.true, ← c.start_of.ensures, answered-err _ _ c.in-Err.is c.walk.ensures)

pub returns : goal.returns
unfolding ends_by
returns c =
    rw (← c.chain_by.ensures, c.if-chain_by.false)
