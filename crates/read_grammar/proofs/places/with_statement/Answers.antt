use borrow.Author.Tests.{ne_eqb, le-leb}
use native.Mathlib.Numerals.{add-one}
use native.Mathlib.Omega.{arith}
use Rattle.rules.specs.Numbered.{number}
use Rattle.rules.specs.Places.{one_more_if}
use Rattle.read_grammar.specs.Coded.{place_after}
use Rattle.read_grammar.proofs.Coded.{low}
use Rattle.read_grammar.proofs.places.with_statement.Goals as goal

pub branches_after-branches-requires : goal.branches_after-branches-requires
branches_after-branches-requires c = (low c.args.p c.requires.2).branches

pub overflow_add-result : goal.overflow_add-result
overflow_add-result c = omega (arith, (low c.args.p c.requires.2).statements)

pub returns : goal.returns
unfolding place_after one_more_if
returns c =
    rw (c.stage_after-stage.ensures, c.requires.1, c.branches_after-branches.ensures, ne_eqb (number c.args.kind) 1 (λ e. omega arith), ne_eqb (number c.args.kind) 2 (λ e. omega arith), ne_eqb (number c.args.kind) 3 (λ e. omega arith), ne_eqb (number c.args.kind) 6 (λ e. omega arith), ne_eqb (number c.args.kind) 7 (λ e. omega arith), le-leb 8 (number c.args.kind) c.requires.0, add-one)
