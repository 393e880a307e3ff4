use mathlib.Core.Path.{ap}
use borrow.Author.Tests.{le-leb, lt-leb}
use native.Mathlib.Omega.{arith}
use Rattle.rules.specs.Numbered.{number}
use Rattle.rules.proofs.KindNumbers.{statement_left}
use Rattle.read_grammar.proofs.Coded.{counted, counts, counts-statement}
use Rattle.read_grammar.proofs.places.is_within.Goals as goal

-- `is_within` meets its contract. Assumes nothing.
pub returns-then-q-gt-STATEMENTS : goal.returns-then-q-gt-STATEMENTS
returns-then-q-gt-STATEMENTS c =
    let h = statement_left c.args.kind c.in_default.not-Class c.in_default.not-Field c.in_default.not-Method c.in_default.not-Requires c.in_default.not-Ensures c.in_default.not-Main c.in_default.not-Var in
    rw (counts-statement _ _ c.requires h, lt-leb _ 256 c.if-q-gt-STATEMENTS.true)

pub returns-in-Class : goal.returns-in-Class
unfolding counted
returns-in-Class c = let n = ap number c.in-Class.is in rw (counts _ _ c.requires (omega (arith, n)), n)

pub returns-in-Field : goal.returns-in-Field
unfolding counted
returns-in-Field c = let n = ap number c.in-Field.is in rw (counts _ _ c.requires (omega (arith, n)), n)

pub returns-in-Method : goal.returns-in-Method
unfolding counted
returns-in-Method c = let n = ap number c.in-Method.is in rw (counts _ _ c.requires (omega (arith, n)), n)

pub returns-in-Requires : goal.returns-in-Requires
unfolding counted
returns-in-Requires c = let n = ap number c.in-Requires.is in rw (counts _ _ c.requires (omega (arith, n)), n)

pub returns-in-Ensures : goal.returns-in-Ensures
unfolding counted
returns-in-Ensures c = let n = ap number c.in-Ensures.is in rw (counts _ _ c.requires (omega (arith, n)), n)

pub returns-in-Main : goal.returns-in-Main
unfolding counted
returns-in-Main c = let n = ap number c.in-Main.is in rw (counts _ _ c.requires (omega (arith, n)), n)

pub returns-in-Var : goal.returns-in-Var
unfolding counted
returns-in-Var c = let n = ap number c.in-Var.is in rw (counts _ _ c.requires (omega (arith, n)), n)

pub returns-else-q-gt-STATEMENTS : goal.returns-else-q-gt-STATEMENTS
returns-else-q-gt-STATEMENTS c =
    let h = statement_left c.args.kind c.in_default.not-Class c.in_default.not-Field c.in_default.not-Method c.in_default.not-Requires c.in_default.not-Ensures c.in_default.not-Main c.in_default.not-Var in
    rw (counts-statement _ _ c.requires h, le-leb _ 256 c.if-q-gt-STATEMENTS.false)
