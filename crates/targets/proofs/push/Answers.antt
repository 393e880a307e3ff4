use Prim.Native.Nat.{◌<◌}
use native.Mathlib.Omega.{arith}
use Rattle.targets.proofs.Stacks.{power_small, push-stack, push-fits, full-stack}
use Rattle.targets.proofs.push.Goals as goal

pub overflow_mul-result : goal.overflow_mul-result
overflow_mul-result c = let h : c.args.o.depth < 4 = omega arith in record { fits = omega (arith, power_small _ h, c.requires.0.1) }

pub overflow_add-result-then-depth-lt-BRANCHES : goal.overflow_add-result-then-depth-lt-BRANCHES
overflow_add-result-then-depth-lt-BRANCHES c = let h : c.args.o.depth < 4 = omega arith in record { fits = omega (arith, power_small _ h, c.requires.0.1) }

pub returns-then-depth-lt-BRANCHES : goal.returns-then-depth-lt-BRANCHES
returns-then-depth-lt-BRANCHES c =
    let h : c.args.o.depth < 4 = omega arith in (
      push-stack _ _ _ h c.requires.1,
      (omega arith, push-fits _ _ _ h c.requires.1 c.requires.0.1),
    )

pub returns : goal.returns
returns c = (full-stack _ _ _ (omega arith), c.requires.0)
