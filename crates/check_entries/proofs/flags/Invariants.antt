use Rattle.std.proofs.Common.{◌≡◌, ℕ, ◌<◌, false, length, get_or}
use Rattle.rules.specs.Limits.{most_permissions}
use Rattle.check_entries.proofs.flags.Given as goal

abbrev pub invariant-loop-i : goal.invariant-loop-i
invariant-loop-i g l =
    (length l.out ≡ most_permissions) × ((j : ℕ) → j < l.i → goal.F-post g l.passes j (get_or l.out j false))
