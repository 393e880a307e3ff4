use Rattle.check_entries.proofs.Keeping.{keeps_entry}
use Rattle.check_entries.proofs.keep_entry.Goals as goal

pub returns : goal.returns
returns c =
    rw c.if-out.false (keeps_entry _ _ _ _ _ c.told-b c.requires)
