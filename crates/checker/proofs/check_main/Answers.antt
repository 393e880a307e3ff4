use mathlib.Core.Path.{◌∙◌}
use Rattle.checker.proofs.Blocks.{main-alone}
use Rattle.checker.proofs.check_main.Goals as goal

-- `checker::check_main` meets its contract. Assumes nothing.
pub returns : goal.returns
returns c =
    c.check_block.ensures ∙ main-alone _ _ c.main_first.ensures.0 _ c.forget_all.ensures.same
