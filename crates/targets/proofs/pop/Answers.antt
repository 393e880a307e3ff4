use mathlib.Core.Path.{◌≡◌}
use native.Mathlib.Omega.{arith}
use Rattle.targets.proofs.Stacks.{pop-stack, pop-fits, no_stack}
use Rattle.targets.proofs.pop.Goals as goal

-- `targets::pop` meets its contract. Assumes nothing.
pub returns-then-depth-eq0 : goal.returns-then-depth-eq0
returns-then-depth-eq0 c = (no_stack _ _ (omega arith), c.requires)

pub returns : goal.returns
returns c =
    let n : c.args.o.depth ≡ 0 → ⊥ = λ e. omega (arith, e) in (
      pop-stack _ _ n,
      (omega arith, pop-fits _ _ n c.requires.1),
    )
