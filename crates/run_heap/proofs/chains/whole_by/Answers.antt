use Rattle.run_heap.specs.Views.{answered}
use Rattle.run_heap.specs.Chains.{whole_cell}
use Rattle.rules.specs.Base.{◌>>=◌}
use Rattle.std.proofs.Common.{◌∙◌, arith}
use Rattle.run_heap.proofs.Reading.{cell-small, found-is, answered-ok, answered-err, passed-on}
use Rattle.run_heap.proofs.chains.whole_by.Goals as goal

pub returns-in_err-k : goal.returns-in_err-k
unfolding answered whole_cell ◌>>=◌
returns-in_err-k c =
    rw (passed-on _ _ c.from_residual.ensures.1, answered-err _ _ c.in_err-k.was c.cell_by.ensures)

pub held_cell-requires : goal.held_cell-requires
held_cell-requires c =
    (cell-small _ _ c.requires.0.0.tables c.requires.0.0.object (found-is _ _ _ _ _ (answered-ok _ _ c.in_ok-k.was c.cell_by.ensures)), (omega arith, omega arith))

pub returns : goal.returns
unfolding whole_cell ◌>>=◌
returns c =
    c.held_cell.ensures ∙ rw (answered-ok _ _ c.in_ok-k.was c.cell_by.ensures)
