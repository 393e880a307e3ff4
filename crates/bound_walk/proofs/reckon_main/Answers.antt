use mathlib.Core.Path.{refl}
use mathlib.Core.Logic.{⊎_elim}
use native.Mathlib.Omega.{arith}
use Rattle.bound_walk.proofs.Replies.{main-waits, main-loops, frames_small, bounded-answer, passed-answer}
use Rattle.bound_walk.proofs.reckon_main.Goals as goal

pub returns-then-b : goal.returns-then-b
returns-then-b c =
    passed-answer _ c.requires.0 _ c.requires.1 _ c.main_first.ensures.0 _ c.scan-s.ensures c.in-End.is c.if-b.true

pub overflow_add-result : goal.overflow_add-result
overflow_add-result c =
    omega (arith, frames_small _ c.requires.0 _ c.requires.1 _ c.main_first.ensures.0 _ c.scan-s.ensures c.in-End.is)

pub returns-in-Wait : goal.returns-in-Wait
returns-in-Wait c =
    ⊎_elim
    (λ (_, e). main-waits _ c.requires.0 _ c.requires.1 _ c.main_first.ensures.0 _ c.scan-s.ensures _ e)
    (λ e. main-loops _ c.requires.0 _ c.requires.1 _ c.main_first.ensures.0 _ c.scan-s.ensures e)
    c.in-Wait.is

pub returns-else-b : goal.returns-else-b
returns-else-b c =
    bounded-answer _ c.requires.0 _ c.requires.1 _ c.main_first.ensures.0 _ c.scan-s.ensures c.in-End.is c.if-b.false _ refl
