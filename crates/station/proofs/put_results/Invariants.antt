use mathlib.Core.Path.{◌≡◌}
use mathlib.Core.List.{◌∷◌, ◌++◌}
use Prim.Native.Nat.{◌*◌}
use lib.ListN.{length, take, drop}
use Rattle.rules.specs.Areas.{words_bytes}
use Rattle.machine.specs.Runs.{main_values}
use Rattle.station.proofs.put_results.Given as goal

-- `station::put_results` meets its contract. Assumes nothing.
abbrev pub invariant-loop-i : goal.invariant-loop-i
invariant-loop-i l =
    (length l.results ≡ length l.initial.results) × (l.results ≡ words_bytes (take l.i (l.steps ∷ main_values l.work)) ++ drop (l.i * 4) l.initial.results)
