use Rattle.std.proofs.Common.{Ok}
use Rattle.check_entailment.specs.Answers.{answered}
use Rattle.rules.specs.State as Rules
use Rattle.rules.specs.Rules.{rule}
use mathlib.Core.Path.{ap, ◌∙◌}
use Rattle.check_rows.proofs.compute_at.Goals as goal

pub returns : goal.returns
unfolding rule answered
returns c =
    record {
      wf = c.remove.ensures.wf;
      same = ap (λ (s : Rules.State). answered (Ok tt) s) c.remove.ensures.same ∙ rw c.x_at-x.ensures.0;
    }
