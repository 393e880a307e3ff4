use Rattle.rules.specs.Syntax.{offset}
use native.Mathlib.Omega.{arith}
use Rattle.check_successors.proofs.order.Goals as goal

pub returns : goal.returns
unfolding offset
returns c = omega arith
