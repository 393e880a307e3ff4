use Rattle.check_formulas.proofs.Atoms.{relation}
use Rattle.rules.specs.Answers.{Refusal}
use Rattle.rules.specs.Base.{Try}
use Rattle.check_statements.proofs.Ruled.{plain-term}
use Rattle.check_statements.specs.Statements.{Parts}
use mathlib.Core.Path.{subst, ap, ◌∙◌}
use Rattle.check_equality.specs.Links.{rel_of}
use Rattle.rules.specs.State as Rules
use Rattle.check_rows.proofs.if_at.Goals as goal

pub returns : goal.returns
returns c =
    subst (λ (t : Try Refusal (Rules.State × Rules.State)). Parts t c.if_rule.result c.if_rule.new.known.keys c.if_rule.new.known.bytes c.if_rule.new.other.keys c.if_rule.new.other.bytes) (rw (ap rel_of c.ne-apart.ensures ∙ relation _ _ c.kind_of_atom.ensures, c.left-l.ensures, c.right-r.ensures, plain-term, plain-term, c.first_atom_at-a.ensures.0)) c.if_rule.ensures
