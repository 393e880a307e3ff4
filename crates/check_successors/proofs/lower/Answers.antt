use Rattle.std.proofs.Common.{lt-ltb, le-ltb}
use Rattle.check_successors.specs.Successors.{lower_of, offset_of}
use native.Mathlib.Omega.{arith}
use Rattle.check_successors.proofs.lower.Goals as goal

pub returns-in_default : goal.returns-in_default
unfolding lower_of
returns-in_default c = rw c.in_default.is

pub returns-then-order : goal.returns-then-order
unfolding lower_of
returns-then-order c =
    rw (c.in-Some.is, lt-ltb (offset_of c.args.k) (offset_of c.in-Some.l) (omega (arith, c.order.ensures, c.order-2.ensures, c.if-order.true)))

pub returns : goal.returns
unfolding lower_of
returns c =
    rw (c.in-Some.is, le-ltb (offset_of c.args.k) (offset_of c.in-Some.l) (omega (arith, c.order.ensures, c.order-2.ensures, c.if-order.false)))
