use Rattle.std.proofs.Common.{rules}
use Rattle.check_entries.proofs.entries_of.Goals as goal

pub returns : goal.returns
returns c = c.flags.ensures _ (λ i r h p. search rules)
