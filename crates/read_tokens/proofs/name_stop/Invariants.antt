use Prim.Native.Nat.{◌+◌, ◌-◌, ◌≤◌}
use Rattle.read_bytes.specs.Sets.{in_set}
use Rattle.read_bytes.specs.declared.Set.TheVariants.{NotLetterOrDigit}
use Rattle.rules.specs.Text.{up_to}
use lib.ListN.{length, drop}
use mathlib.Core.Path.{◌≡◌}
use Rattle.read_tokens.proofs.name_stop.Given as goal

-- The invariant: the search from `stop` on ends where the search from `at` on does.
abbrev pub invariant-loop-stop : goal.invariant-loop-stop
invariant-loop-stop l =
    (l.at ≤ l.stop) × (l.stop ≤ length l.l) × (l.stop + up_to (in_set NotLetterOrDigit) (drop l.stop l.l) ≡ l.at + up_to (in_set NotLetterOrDigit) (drop l.at l.l))

abbrev pub decreases-loop-stop : goal.decreases-loop-stop
decreases-loop-stop l = length l.l - l.stop
