use mathlib.Core.Path.{◌≡◌}
use native.Mathlib.Omega.{arith}
use Rattle.targets.proofs.Stacks.{replace-stack, replace-fits, none-replaced}
use Rattle.targets.proofs.replace.Goals as goal

-- `targets::replace` meets its contract. Assumes nothing.
pub returns-then-depth-eq0 : goal.returns-then-depth-eq0
returns-then-depth-eq0 c = (none-replaced _ _ _ (omega arith), c.requires.0)

pub returns : goal.returns
returns c =
    let n : c.args.o.depth ≡ 0 → ⊥ = λ e. omega (arith, e) in (
      replace-stack _ _ _ n c.requires.1,
      (omega arith, replace-fits _ _ _ n c.requires.1 c.requires.0.1),
    )
