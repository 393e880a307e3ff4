use lib.ListN.{length}
use mathlib.Core.Path.{sym, ap}
use Rattle.read_bytes.proofs.Search.{not_same}
use Rattle.read_bytes.proofs.same.Goals as goal

pub returns-then-n-b : goal.returns-then-n-b
returns-then-n-b c = sym (not_same _ _ (λ e. c.if-n-b.true (ap length e)))
