use Rattle.run_footprint.proofs.chains.chain_by.Goals as goal

pub returns-then-is_chain : goal.returns-then-is_chain
returns-then-is_chain c =
    rw (← c.is_chain.ensures, c.if-is_chain.true, c.field_of.ensures)

pub returns : goal.returns
returns c =
    rw (← c.is_chain.ensures, c.if-is_chain.false)
