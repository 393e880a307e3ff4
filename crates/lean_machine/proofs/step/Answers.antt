use Rattle.lean_heap.proofs.Following.{has-row, has-kind}
use Rattle.lean_machine.proofs.step.Goals as goal

pub row_kind-requires : goal.row_kind-requires
row_kind-requires c = (has-row c.requires, has-kind c.requires)
