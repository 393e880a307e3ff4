use Rattle.check_forgetting.proofs.Starts.{cleared}
use Rattle.check_forgetting.proofs.clear.Goals as goal

pub returns : goal.returns
returns c =
    λ key H. cleared key _ _ H c.told-b c.fresh.ensures
