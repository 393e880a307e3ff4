use Rattle.check_rows.proofs.Operands.{opposite-relation, loop_atoms}
use mathlib.Core.Path.{subst, ap, ◌∙◌}
use Rattle.check_equality.specs.Links.{rel_of}
use native.Mathlib.Omega.{arith}
use Rattle.rules.specs.Answers.{Refusal}
use Rattle.rules.specs.Base.{Try}
use Rattle.rules.specs.State as Rules
use Rattle.check_entailment.specs.Answers.{Adds}
use Rattle.check_rows.proofs.again_at.Goals as goal

pub overflow_sub-a : goal.overflow_sub-a
overflow_sub-a c =
    let l = loop_atoms _ c.requires.0 _ c.requires.1 c.requires.2 in omega (arith, l, c.first_atom_at-a.ensures.0)

pub loop_rule-requires : goal.loop_rule-requires
loop_rule-requires c =
    let l = loop_atoms _ c.requires.0 _ c.requires.1 c.requires.2 in (omega (arith, l, c.first_atom_at-a.ensures.0), omega (arith, l, c.first_atom_at-a.ensures.0, c.atom_count_at-n.ensures.0))

pub returns : goal.returns
returns c =
    subst (λ (t : Try Refusal Rules.State). Adds t c.loop_rule.result c.loop_rule.new.known.keys c.loop_rule.new.known.bytes) (rw (ap rel_of c.eq-apart.ensures ∙ opposite-relation _ _ c.kind_of_atom.ensures, c.first_atom_at-a.ensures.0, c.atom_count_at-n.ensures.0)) c.loop_rule.ensures
