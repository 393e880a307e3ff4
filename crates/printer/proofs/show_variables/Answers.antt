use native.Mathlib.Omega.{arith}
use Rattle.read_declarations.proofs.Walks.{walking-clean, walking-formed}
use Rattle.printer.proofs.Variables.{showing-first, showing-done, showing-room, showing-on}
use Rattle.printer.proofs.show_variables.Goals as goal

pub loop-at-init : goal.loop-at-init
loop-at-init c =
    (omega arith, showing-first _ _ _ _ (omega (arith, c.requires.0)) c.requires.2)

pub find-end-requires : goal.find-end-requires
find-end-requires c =
    omega arith

pub show_line-s-requires : goal.show_line-s-requires
show_line-s-requires c =
    (omega arith, c.requires.1, walking-formed c.loop-at.invariant.1.walk c.loop-at-test.true c.find-end.ensures, showing-room c.loop-at.invariant.1 c.loop-at-test.true c.find-end.ensures c.requires.0)

pub overflow_add-at : goal.overflow_add-at
overflow_add-at c =
    omega (arith, (walking-clean c.loop-at.invariant.1.walk c.loop-at-test.true c.find-end.ensures).high)

pub loop-at-smaller : goal.loop-at-smaller
loop-at-smaller c =
    let y = walking-clean c.loop-at.invariant.1.walk c.loop-at-test.true c.find-end.ensures in
    omega (arith, y.low, y.high)

pub loop-at-preserved : goal.loop-at-preserved
loop-at-preserved c =
    (omega (arith, (walking-clean c.loop-at.invariant.1.walk c.loop-at-test.true c.find-end.ensures).high), showing-on c.loop-at.invariant.1 c.loop-at-test.true c.find-end.ensures c.show_line-s.ensures)

pub shape_of-out : goal.shape_of-out
shape_of-out c =
    c.loop-at.invariant.1.shows.bytes.size

pub returns : goal.returns
returns c =
    showing-done c.loop-at.invariant.1 c.loop-at-test.false
