use Rattle.run_heap.specs.Views.{answered, read_in}
use Rattle.tables.specs.Stores.{meaning}
use Rattle.rules.specs.Base.{◌>>=◌}
use Rattle.run_heap.proofs.Reading.{spot-small, answered-ok, answered-err, passed-on}
use Rattle.run_heap.proofs.value.Goals as goal

pub returns-in_err-k : goal.returns-in_err-k
unfolding answered read_in meaning ◌>>=◌
returns-in_err-k c =
    rw (c.in-Path.is, passed-on _ _ c.from_residual.ensures.1, answered-err _ _ c.in_err-k.was c.locate.ensures)

pub cell_value-requires : goal.cell_value-requires
cell_value-requires c =
    spot-small _ _ _ c.requires.0 (answered-ok _ _ c.in_ok-k.was c.locate.ensures)

pub returns : goal.returns
unfolding answered read_in meaning ◌>>=◌
returns c =
    rw (c.in-Path.is, answered-ok _ _ c.in_ok-k.was c.locate.ensures, c.cell_value.ensures)
