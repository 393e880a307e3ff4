use borrow.Author.Tests.{eq-eqb, ne_eqb}
use Rattle.run_footprint.specs.Footprints.{cell_in, part_of, part_by}
use native.Mathlib.Omega.{arith}
use Rattle.run_footprint.proofs.part_of.Goals as goal

pub returns-then-is_chain : goal.returns-then-is_chain
unfolding part_by
returns-then-is_chain c =
    (rw (← c.is_chain.ensures, c.if-is_chain.true) c.chain_part.ensures.0, omega (arith, c.chain_part.ensures.1))

pub returns-then-s-k : goal.returns-then-s-k
unfolding part_by part_of
returns-then-s-k c =
    (rw (← c.is_chain.ensures, c.if-is_chain.false, eq-eqb (cell_in c.args.s) c.args.k c.if-s-k.true), omega arith)

pub returns : goal.returns
unfolding part_by part_of
returns c =
    (rw (← c.is_chain.ensures, c.if-is_chain.false, ne_eqb (cell_in c.args.s) c.args.k c.if-s-k.false), omega arith)
