use Prim.Native.Nat.{◌<◌}
use Rattle.read_words.proofs.Words.{room}
use Rattle.read_words.specs.Words.{packed}
use lib.ListN.{drop}
use mathlib.Core.Path.{◌≡◌}
use Rattle.read_words.proofs.pack.Given as goal

-- The invariant: what is left packs, after the number so far, as the field does.
abbrev pub invariant-loop-b : goal.invariant-loop-b
invariant-loop-b l = (l.n < room l.b-index) × (packed l.n (drop l.b-index l.w) ≡ packed 0 l.w)
