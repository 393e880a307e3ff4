use Rattle.check_entailment.proofs.Adding.{full-permissions, one-permission}
use Rattle.check_entailment.proofs.add_permission.Goals as goal

pub returns-then-n-ge-PERMISSIONS : goal.returns-then-n-ge-PERMISSIONS
returns-then-n-ge-PERMISSIONS c =
    λ key w. full-permissions key _ _ w c.if-n-ge-PERMISSIONS.true

pub returns : goal.returns
returns c =
    λ key w. one-permission key _ _ _ _ c.requires.1 w c.if-n-ge-PERMISSIONS.false
