use Rattle.run_footprint.specs.Footprints.{share_at}
use Rattle.run_footprint.proofs.walks.share_at.Goals as goal

pub returns-then-is_chain : goal.returns-then-is_chain
unfolding share_at
returns-then-is_chain c =
    rw (← c.is_chain.ensures, c.if-is_chain.true)

pub returns : goal.returns
unfolding share_at
returns c =
    rw (← c.is_chain.ensures, c.if-is_chain.false)
