use Rattle.run_steps.proofs.Doing.{row_small, shut-small, shut-does, shut-lacks}
use native.Mathlib.Omega.{arith}
use Rattle.run_steps.proofs.chains.shut_whole.Goals as goal

pub halves_held-requires : goal.halves_held-requires
halves_held-requires c =
    shut-small c.requires.shutting

pub returns-then-halves_held-lt-WHOLE : goal.returns-then-halves_held-lt-WHOLE
returns-then-halves_held-lt-WHOLE c =
    shut-lacks c.requires (omega (arith, c.halves_held.ensures, c.if-halves_held-lt-WHOLE.true))

pub overflow_add-c : goal.overflow_add-c
overflow_add-c c =
    omega (arith, row_small c.requires.shutting.ready)

pub next-requires : goal.next-requires
next-requires c =
    c.requires.shutting.ready.more

pub returns : goal.returns
returns c =
    shut-does c.requires (omega (arith, c.halves_held.ensures, c.if-halves_held-lt-WHOLE.false)) c.next.ensures
