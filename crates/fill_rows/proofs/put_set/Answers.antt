use mathlib.Core.Path.{sym, ap, subst, ◌∙◌}
use native.Mathlib.Omega.{arith}
use Rattle.write_rows.specs.Puts.{put_requires}
use Rattle.fill_rows.specs.Rewrites.{SetPut}
use Rattle.fill_rows.proofs.Rewritten.{set-put}
use Rattle.fill_rows.proofs.put_set.Goals as goal

-- `fill_rows::put_set` meets its contract. Assumes nothing.
pub overflow_add-n : goal.overflow_add-n
overflow_add-n c =
    omega (arith, c.requires.0.room, c.requires.1)

pub put_half-requires : goal.put_half-requires
put_half-requires c =
    (omega (arith, c.requires.0.tables.size), omega (arith, c.requires.0.room, c.requires.1))

pub put_requires-requires : goal.put_requires-requires
put_requires-requires c =
    (omega (arith, c.requires.0.method, c.requires.0.tables.methods), (omega (arith, c.requires.0.room), omega (arith, c.requires.1)))

pub returns : goal.returns
returns c =
    subst (SetPut _ _ _ _) (sym (c.put_requires.ensures ∙ ap (λ v. put_requires v c.args.m c.args.n c.args.k) c.put_half.ensures)) (set-put _ _ _ _ c.requires.0 c.requires.1 c.requires.2)
