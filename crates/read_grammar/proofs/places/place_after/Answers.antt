use mathlib.Core.Path.{ap}
use native.Mathlib.Numerals.{add-one}
use native.Mathlib.Omega.{arith}
use Rattle.rules.specs.Places.{one_more_if}
use Rattle.read_grammar.specs.declared.Row.{Row}
use Rattle.read_grammar.specs.Rows.{row_of}
use Rattle.read_grammar.specs.Coded.{place_after, stage_after, branches_after}
use Rattle.rules.proofs.KindNumbers.{statement_left}
use Rattle.read_grammar.proofs.Coded.{low}
use Rattle.read_grammar.proofs.places.place_after.Goals as goal

pub overflow_add-result : goal.overflow_add-result
overflow_add-result c = omega (arith, (low c.args.p c.requires).classes)

pub overflow_add-result-in-Field : goal.overflow_add-result-in-Field
overflow_add-result-in-Field c = omega (arith, (low c.args.p c.requires).fields)

pub overflow_add-result-in-Method : goal.overflow_add-result-in-Method
overflow_add-result-in-Method c = omega (arith, (low c.args.p c.requires).methods)

pub overflow_add-result-in-Var : goal.overflow_add-result-in-Var
overflow_add-result-in-Var c = omega (arith, (low c.args.p c.requires).locals)

pub with_statement-requires : goal.with_statement-requires
unfolding row_of
with_statement-requires c =
    (statement_left c.args.kind c.in_default.not-Class c.in_default.not-Field c.in_default.not-Method c.in_default.not-Requires c.in_default.not-Ensures c.in_default.not-Main c.in_default.not-Var, ap (λ (r : Row). r.next) c.row_of-row.ensures, c.requires)

pub returns-in-Class : goal.returns-in-Class
unfolding row_of place_after stage_after branches_after one_more_if
returns-in-Class c = rw (c.row_of-row.ensures, c.in-Class.is, add-one)

pub returns-in-Field : goal.returns-in-Field
unfolding row_of place_after stage_after branches_after one_more_if
returns-in-Field c = rw (c.row_of-row.ensures, c.in-Field.is, add-one)

pub returns-in-Method : goal.returns-in-Method
unfolding row_of place_after stage_after branches_after one_more_if
returns-in-Method c = rw (c.row_of-row.ensures, c.in-Method.is, add-one)

pub returns-in-Requires : goal.returns-in-Requires
unfolding row_of place_after stage_after branches_after one_more_if
returns-in-Requires c = rw (c.row_of-row.ensures, c.in-Requires.is)

pub returns-in-Ensures : goal.returns-in-Ensures
unfolding row_of place_after stage_after branches_after one_more_if
returns-in-Ensures c = rw (c.row_of-row.ensures, c.in-Ensures.is)

pub returns-in-Main : goal.returns-in-Main
unfolding row_of place_after stage_after branches_after one_more_if
returns-in-Main c = rw (c.row_of-row.ensures, c.in-Main.is)

pub returns-in-Var : goal.returns-in-Var
unfolding row_of place_after stage_after branches_after one_more_if
returns-in-Var c = rw (c.row_of-row.ensures, c.in-Var.is, add-one)
