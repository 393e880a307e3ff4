use mathlib.Core.Path.{◌∙◌}
use Rattle.read_types.specs.Types.{chain_judged}
use Rattle.read_types.proofs.Types.{chains-is}
use Rattle.read_types.proofs.look_chain.Goals as goal

pub returns : goal.returns
unfolding chain_judged
returns c =
    record { variable = c.look_path-m.ensures.variable; number = c.look_path-m.ensures.number; is = c.look_path-m.ensures.is; verdict = c.judge_chain.ensures ∙ rw (c.look_path-m.ensures.verdict, chains-is c.look_path-m.ensures) }
