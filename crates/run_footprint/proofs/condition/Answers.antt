use mathlib.Core.Path.{ap, ◌∙◌}
use Rattle.tables.specs.Decode.{rel_of}
use Rattle.tables.specs.Kinds.{kind_number}
use Rattle.tables.proofs.AtomKinds.{rel-kind}
use Rattle.run_heap.specs.Views.{answered}
use Rattle.run_footprint.specs.Footprints.{test_in, right_test}
use Rattle.rules.specs.Base.{◌>>=◌}
use Rattle.run_heap.proofs.Reading.{answered-ok, answered-err, passed-on}
use Rattle.run_footprint.proofs.condition.Goals as goal

pub returns-in_err-l : goal.returns-in_err-l
unfolding answered test_in ◌>>=◌
returns-in_err-l c =
    rw (passed-on _ _ c.from_residual.ensures.1, answered-err _ _ c.in_err-l.was c.left.ensures)

pub returns-in_err-r : goal.returns-in_err-r
unfolding answered test_in right_test ◌>>=◌
returns-in_err-r c =
    rw (passed-on _ _ c.from_residual-in_err-r.ensures.1, answered-ok _ _ c.in_ok-l.was c.left.ensures, answered-err _ _ c.in_err-r.was c.right.ensures)

pub returns : goal.returns
unfolding answered test_in right_test ◌>>=◌
returns c =
    rw (answered-ok _ _ c.in_ok-l.was c.left.ensures, answered-ok _ _ c.in_ok-r.was c.right.ensures, c.compare.ensures, ap (λ k. rel_of (kind_number k)) c.kind_of_atom.ensures ∙ rel-kind _)
