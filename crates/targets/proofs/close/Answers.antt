use mathlib.Core.Path.{◌∙◌, ap}
use mathlib.Core.List.{List}
use Prim.Native.Nat.{ℕ}
use Rattle.rules.specs.declared.Kind.TheVariants as Kind
use Rattle.rules.specs.Numbered.{number}
use Rattle.rules.proofs.KindNumbers.{one_number}
use Rattle.targets.specs.Targets.{put_target}
use Rattle.targets.proofs.Stacks.{closed-at-else, closed-at-join, closed-at-again, closed-elsewhere}
use Rattle.targets.proofs.close.Goals as goal

pub returns-in-Else : goal.returns-in-Else
returns-in-Else c = c.put_target.ensures ∙ closed-at-else _ _ _ _ (ap number c.in-Else.is)

pub returns-in-Join : goal.returns-in-Join
returns-in-Join c = c.put_target-in-Join.ensures ∙ closed-at-join _ _ _ _ (ap number c.in-Join.is)

pub returns-in-Again : goal.returns-in-Again
returns-in-Again c =
    c.put_target-in-Again-2.ensures
    ∙ (ap (λ (w : List ℕ). put_target w c.args.i c.args.t) c.put_target-in-Again.ensures ∙ closed-at-again _ _ _ _ (ap number c.in-Again.is))

pub returns-in_default : goal.returns-in_default
returns-in_default c =
    closed-elsewhere _ _ _ _ (λ e. c.in_default.not-Else (one_number _ Kind.Else e)) (λ e. c.in_default.not-Join (one_number _ Kind.Join e)) (λ e. c.in_default.not-Again (one_number _ Kind.Again e))
