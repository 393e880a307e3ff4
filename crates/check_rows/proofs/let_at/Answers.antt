use Rattle.check_rows.proofs.Operands.{first_atom}
use Rattle.check_entailment.specs.Answers.{Adds}
use Rattle.rules.specs.Answers.{Refusal}
use Rattle.rules.specs.Base.{Try}
use Rattle.check_statements.proofs.Ruled.{plain-term}
use mathlib.Core.Logic.{inl}
use mathlib.Core.Path.{subst}
use native.Mathlib.Omega.{arith}
use Rattle.rules.specs.State as Rules
use Rattle.rules.specs.Rules.{rule}
use Rattle.check_rows.proofs.let_at.Goals as goal

pub right-requires : goal.right-requires
right-requires c =
    omega (arith, first_atom _ c.requires.0 _ c.requires.1 (inl c.requires.2), c.first_atom_at-a.ensures.0)

pub returns : goal.returns
unfolding rule
returns c =
    subst (λ (t : Try Refusal Rules.State). Adds t c.assign_rule.result c.assign_rule.new.known.keys c.assign_rule.new.known.bytes) (rw (c.x_at-x.ensures.0, c.right.ensures, plain-term, c.first_atom_at-a.ensures.0)) c.assign_rule.ensures
