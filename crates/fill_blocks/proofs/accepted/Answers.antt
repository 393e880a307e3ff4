use mathlib.Core.Path.{ap, ◌∙◌}
use Rattle.rules.specs.Calls.{is_accepted}
use Rattle.fill_blocks.proofs.Passing.{ok-accepted}
use Rattle.fill_blocks.proofs.accepted.Goals as goal

pub returns : goal.returns
returns c =
    c.is_ok.ensures.value ∙ ok-accepted _ ∙ ap is_accepted c.check_block.ensures
