use mathlib.Core.Path.{ap, ◌∙◌}
use Rattle.rules.specs.declared.Kind.TheVariants as Kind
use Rattle.rules.specs.Numbered.{number}
use Rattle.rules.proofs.KindNumbers.{one_number}
use Rattle.targets.proofs.Stacks.{open-at-if, open-at-else, open-at-join, open-at-loop, open-at-again, open-elsewhere}
use Rattle.targets.proofs.open_after.Goals as goal

pub returns-in-If : goal.returns-in-If
returns-in-If c = (c.push.ensures.0 ∙ open-at-if _ _ _ (ap number c.in-If.is), c.push.ensures.1)

pub returns-in-Else : goal.returns-in-Else
returns-in-Else c = (c.replace.ensures.0 ∙ open-at-else _ _ _ (ap number c.in-Else.is), c.replace.ensures.1)

pub returns-in-Join : goal.returns-in-Join
returns-in-Join c = (c.pop.ensures.0 ∙ open-at-join _ _ _ (ap number c.in-Join.is), c.pop.ensures.1)

pub returns-in-Loop : goal.returns-in-Loop
returns-in-Loop c = (c.push-in-Loop.ensures.0 ∙ open-at-loop _ _ _ (ap number c.in-Loop.is), c.push-in-Loop.ensures.1)

pub returns-in-Again : goal.returns-in-Again
returns-in-Again c = (c.pop-in-Again.ensures.0 ∙ open-at-again _ _ _ (ap number c.in-Again.is), c.pop-in-Again.ensures.1)

pub returns-in_default : goal.returns-in_default
returns-in_default c =
    (open-elsewhere _ _ _ (λ e. c.in_default.not-If (one_number _ Kind.If e)) (λ e. c.in_default.not-Else (one_number _ Kind.Else e)) (λ e. c.in_default.not-Join (one_number _ Kind.Join e)) (λ e. c.in_default.not-Loop (one_number _ Kind.Loop e)) (λ e. c.in_default.not-Again (one_number _ Kind.Again e)), c.requires.0)
