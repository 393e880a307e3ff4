use native.Mathlib.Omega.{arith}
use Rattle.bound_walk.proofs.Walks.{may-leave, may-wait, turn-leaves, turn-stops, turn-waits}
use Rattle.bound_walk.proofs.turns.turn.Goals as goal

pub leave-requires : goal.leave-requires
leave-requires c =
    may-leave _ c.requires.0 _ c.requires.1.0 c.requires.1.1 _ c.scan-s.ensures c.in-End.is

pub offset_bounds-r-c : goal.offset_bounds-r-c
offset_bounds-r-c c =
    omega (arith, (may-wait _ c.requires.0 _ c.requires.1.0 c.requires.1.1 _ c.scan-s.ensures _ c.in-Wait.is).1)

pub bounds-r-c : goal.bounds-r-c
bounds-r-c c =
    (may-wait _ c.requires.0 _ c.requires.1.0 c.requires.1.1 _ c.scan-s.ensures _ c.in-Wait.is).1

pub wait-requires : goal.wait-requires
wait-requires c =
    may-wait _ c.requires.0 _ c.requires.1.0 c.requires.1.1 _ c.scan-s.ensures _ c.in-Wait.is

pub returns-in-End : goal.returns-in-End
returns-in-End c =
    turn-leaves _ c.requires.0 _ c.requires.1.0 c.requires.1.1 _ c.scan-s.ensures _ c.in-End.is c.leave.ensures

pub returns-in-Loop : goal.returns-in-Loop
returns-in-Loop c =
    turn-stops _ c.requires.0 _ c.requires.1.0 c.requires.1.1 _ c.scan-s.ensures c.in-Loop.is

pub returns-in-Wait : goal.returns-in-Wait
returns-in-Wait c =
    turn-waits _ c.requires.0 _ c.requires.1.0 c.requires.1.1 _ c.scan-s.ensures _ _ c.in-Wait.is c.wait.ensures
