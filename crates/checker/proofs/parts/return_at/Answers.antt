use Rattle.check_state.proofs.Whole.{whole}
use Rattle.checker.proofs.Blocks.{passed-on, return-stops, return-goes}
use Rattle.checker.proofs.parts.return_at.Goals as goal

pub returns-in_err-at_row : goal.returns-in_err-at_row
returns-in_err-at_row c =
    rw (passed-on _ _ c.from_residual.ensures.1)
    (return-stops _ c.requires.0 _ c.requires.1 c.requires.2 _ _ _ _ (whole c.return_rule.new.known.sound) _ c.x_at-x.ensures.0 _ c.return_rule.ensures _ c.in_err-at_row.ensures)

pub returns : goal.returns
returns c =
    return-goes _ c.requires.0 _ c.requires.1 c.requires.2 _ _ _ _ (whole c.return_rule.new.known.sound) _ c.x_at-x.ensures.0 _ c.return_rule.ensures _ c.in_ok-at_row.ensures
