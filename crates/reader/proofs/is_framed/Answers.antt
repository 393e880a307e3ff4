use mathlib.Core.Path.{sym}
use Rattle.reader.proofs.Lines.{framed-kind, other-kind}
use Rattle.reader.proofs.is_framed.Goals as goal

pub returns-in-Requires : goal.returns-in-Requires
returns-in-Requires c = sym (framed-kind c.in-Requires.is)

pub returns-in_default : goal.returns-in_default
returns-in_default c =
    sym (other-kind c.in_default.not-Requires c.in_default.not-Ensures c.in_default.not-Join c.in_default.not-Loop)
