use Rattle.printer.proofs.Writes.{writes_one}
use Rattle.printer.proofs.put.Goals as goal

pub returns : goal.returns
returns c =
    writes_one _ _ _ c.requires
