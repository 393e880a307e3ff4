use mathlib.Core.Path.{sym, ◌∙◌}
use Rattle.rules.specs.Base as Base
use Rattle.rules.specs.Text as Text
use Rattle.rules.specs.Scope.{atom_operands}
use Rattle.read_words.specs.Words.{packed}
use Rattle.read_grammar.specs.Rows as Rows
use Rattle.read_atoms.specs.Atoms as Atoms
use Rattle.read_atoms.proofs.row_of_kind.Goals as goal

pub returns-in-Read : goal.returns-in-Read
unfolding Atoms.opened Base.opened Text.opened Rows.opened atom_operands packed
returns-in-Read c = c.columns.ensures ∙ sym (rw c.in-Read.is)

pub returns-in-Acc : goal.returns-in-Acc
unfolding Atoms.opened Base.opened Text.opened Rows.opened atom_operands packed
returns-in-Acc c = c.columns-in-Acc.ensures ∙ sym (rw c.in-Acc.is)

pub returns-in-Chain : goal.returns-in-Chain
unfolding Atoms.opened Base.opened Text.opened Rows.opened atom_operands packed
returns-in-Chain c = c.columns-in-Chain.ensures ∙ sym (rw c.in-Chain.is)

pub returns-in-Eq : goal.returns-in-Eq
unfolding Atoms.opened Base.opened Text.opened Rows.opened atom_operands packed
returns-in-Eq c = c.columns-in-Eq.ensures ∙ sym (rw c.in-Eq.is)

pub returns-in-Ne : goal.returns-in-Ne
unfolding Atoms.opened Base.opened Text.opened Rows.opened atom_operands packed
returns-in-Ne c = c.columns-in-Ne.ensures ∙ sym (rw c.in-Ne.is)
