-- The measure is three times the depth, and two more in a block and one in a row.
use Prim.Native.Nat.{◌+◌, ◌*◌, ◌-◌}
use Rattle.tables.specs.Decode.{row_count, atoms_from}
use Rattle.check_state.specs.States.{state_of}
use Rattle.checker.proofs.Blocks.{Going}
use Rattle.checker.proofs.+block_body_branch_row.Given as goal

abbrev pub decreases-block : goal.decreases-block
decreases-block l = l.depth * 3 + 2

abbrev pub decreases-body : goal.decreases-body
decreases-body l = l.depth * 3

abbrev pub decreases-branch : goal.decreases-branch
decreases-branch l = l.depth * 3

abbrev pub decreases-row : goal.decreases-row
decreases-row l = l.depth * 3 + 1

abbrev pub invariant-block-loop-known : goal.invariant-block-loop-known
invariant-block-loop-known l = Going l.w l.depth l.from (atoms_from l.w l.a l.n) (state_of l.initial.known.keys l.initial.known.bytes) l.at l.known.keys l.known.bytes

abbrev pub decreases-block-loop-known : goal.decreases-block-loop-known
decreases-block-loop-known l = row_count l.w - l.at
