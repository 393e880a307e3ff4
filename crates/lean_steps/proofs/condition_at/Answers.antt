use native.Mathlib.Omega.{arith}
use mathlib.Core.Path.{sym, ◌∙◌}
use borrow.Author.Tests.{ne_eqb}
use Rattle.rules.specs.declared.Kind.TheVariants.{Loop}
use Rattle.rules.specs.Numbered.{number}
use Rattle.rules.specs.Grammar.{loop_kind}
use Rattle.rules.proofs.KindNumbers.{same, apart}
use Rattle.lean_steps.specs.Rows.{condition_of}
use Rattle.lean_steps.proofs.condition_at.Goals as goal

pub overflow_sub-result : goal.overflow_sub-result
overflow_sub-result c =
    omega (arith, c.first_atom_at-a.ensures.0, c.requires.1 (sym c.row_kind.ensures ∙ same c.row_kind.result Loop c.if-eq.ensures))

pub returns-then-eq : goal.returns-then-eq
unfolding condition_of
returns-then-eq c = rw (← c.row_kind.ensures, same c.row_kind.result Loop c.if-eq.ensures, c.first_atom_at-a.ensures.0)

pub returns : goal.returns
unfolding condition_of
returns c =
    rw (← c.row_kind.ensures, ne_eqb (number c.row_kind.result) loop_kind (apart c.row_kind.result Loop c.if-eq.ensures)) c.first_atom_at-a.ensures.0
