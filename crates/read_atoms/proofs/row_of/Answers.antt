use mathlib.Core.Path.{sym, ◌∙◌}
use native.Mathlib.Omega.{arith}
use Rattle.rules.specs.Base as Base
use Rattle.rules.specs.Text as Text
use Rattle.rules.specs.Scope.{atom_operands}
use Rattle.read_words.specs.Words.{packed}
use Rattle.read_grammar.specs.Rows as Rows
use Rattle.read_atoms.specs.Atoms as Atoms
use Rattle.read_atoms.proofs.Atoms.{no_kind}
use Rattle.read_atoms.proofs.row_of.Goals as goal

pub returns-in-1 : goal.returns-in-1
returns-in-1 c = c.row_of_kind.ensures ∙ sym (rw c.in-1.is)

pub returns-in-2 : goal.returns-in-2
returns-in-2 c = c.row_of_kind-in-2.ensures ∙ sym (rw c.in-2.is)

pub returns-in-3 : goal.returns-in-3
returns-in-3 c = c.row_of_kind-in-3.ensures ∙ sym (rw c.in-3.is)

pub returns-in-4 : goal.returns-in-4
returns-in-4 c = c.row_of_kind-in-4.ensures ∙ sym (rw c.in-4.is)

pub returns-in-5 : goal.returns-in-5
returns-in-5 c = c.row_of_kind-in-5.ensures ∙ sym (rw c.in-5.is)

pub returns-in_default : goal.returns-in_default
unfolding Atoms.opened Base.opened Text.opened Rows.opened atom_operands packed
returns-in_default c =
    c.columns.ensures
    ∙ sym (rw (no_kind c.args.kind (λ e. omega (arith, e)) (λ e. omega (arith, e)) (λ e. omega (arith, e)) (λ e. omega (arith, e)) (λ e. omega (arith, e))))
