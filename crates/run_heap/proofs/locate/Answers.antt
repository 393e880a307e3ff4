use Rattle.run_heap.specs.Views.{answered, spot}
use Rattle.rules.specs.Base.{◌>>=◌}
use Rattle.std.proofs.Common.{◌∙◌}
use Rattle.run_heap.proofs.Reading.{found-small, answered-ok, answered-err, passed-on}
use Rattle.run_heap.proofs.locate.Goals as goal

pub returns-in_err-k : goal.returns-in_err-k
unfolding answered spot ◌>>=◌
returns-in_err-k c =
    rw (passed-on _ _ c.from_residual.ensures.1, answered-err _ _ c.in_err-k.was c.find.ensures)

pub held_cell-requires : goal.held_cell-requires
held_cell-requires c =
    (found-small _ _ c.requires.0.0 (answered-ok _ _ c.in_ok-k.was c.find.ensures), c.requires.0.1)

pub returns : goal.returns
unfolding spot ◌>>=◌
returns c = c.held_cell.ensures ∙ rw (answered-ok _ _ c.in_ok-k.was c.find.ensures)
