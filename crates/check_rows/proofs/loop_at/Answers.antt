use Rattle.check_formulas.proofs.Atoms.{relation}
use mathlib.Core.Path.{subst, ap, ◌∙◌}
use Rattle.check_equality.specs.Links.{rel_of}
use Rattle.rules.specs.Answers.{Refusal}
use Rattle.rules.specs.Base.{Try}
use Rattle.rules.specs.State as Rules
use Rattle.check_entailment.specs.Answers.{Adds}
use Rattle.check_rows.proofs.loop_at.Goals as goal

pub returns : goal.returns
returns c =
    subst (λ (t : Try Refusal Rules.State). Adds t c.loop_rule.result c.loop_rule.new.known.keys c.loop_rule.new.known.bytes) (rw (ap rel_of c.ne-apart.ensures ∙ relation _ _ c.kind_of_atom.ensures, c.first_atom_at-a.ensures.0, c.atom_count_at-n.ensures.0)) c.loop_rule.ensures
