use mathlib.Core.Path.{sym, ◌∙◌}
use borrow.Author.Tests.{eq-eqb, ne_eqb}
use Rattle.resolve_framing.proofs.is_of.Goals as goal

pub returns-then-atom_variable-x : goal.returns-then-atom_variable-x
returns-then-atom_variable-x c = rw (ne_eqb _ _ (λ e. c.if-atom_variable-x.true (c.atom_variable.ensures.0 ∙ e)))

pub returns : goal.returns
returns c = rw (eq-eqb _ _ (sym c.atom_variable.ensures.0 ∙ c.if-atom_variable-x.false), c.atom_field.ensures.0)
