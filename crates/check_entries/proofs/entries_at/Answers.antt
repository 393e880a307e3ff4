use Rattle.std.proofs.Common.{rules}
use Rattle.check_equality.proofs.Keys.{same_key}
use Rattle.check_entries.proofs.entries_at.Goals as goal

pub returns : goal.returns
returns c = c.flags.ensures _ (λ i r h p. search (rules, same_key))
