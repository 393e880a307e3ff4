-- Examples of several scripts in one run (W12).
use mathlib.Core.List.{List, [], ◌∷◌, ◌++◌}
use Prim.Native.String.{String}
use lib.Dec.{T}
use lib.ListN.{replicate}
use Rattle.rules.specs.Base.{all}
use Rattle.rules.specs.Calls.{computing}
use Rattle.rules.proofs.ExampleRows as ExampleRows
use Rattle.rules.proofs.ExampleRows.{Row, right, count, row, times, zeros, repeated}

-- 65 objects; the last gets a 3, then the first a 1, and the last is read
pub first_and_last : List String
first_and_last =
    "class S" ∷
    "field int n" ∷
    "main" ∷
    "var S s" ∷
    "var S t" ∷
    "var int a" ∷
    "var int b" ∷
    "var int i" ∷
    "let i 1" ∷
    "new t S" ∷
    "loop ne a 3 acc t n" ∷
    (times 21 "new s S" ++ ("add a a i" ∷ "again" ∷ "new s S" ∷ "set s n a" ∷ "set t n i" ∷ "let b s.n" ∷ "end" ∷ []))

abbrev pub joint_rows : List Row
joint_rows =
    -- "Each gets a share of k objects": one begins where the one before it ends
    row first_and_last (count 2 80 (first_and_last ∷ []) (65 ∷ 65 ∷ []))
    (0 ∷ 0 ∷ (repeated 2 (0 ∷ 39 ∷ 80 ∷ 65 ∷ 1 ∷ 3 ∷ 3 ∷ 1 ∷ replicate 7 0) ++ repeated 2 (zeros 0 0))) ∷
    -- "shares that are 0 or sum above 256": the sum of all
    row [] (count 3 9 ([] ∷ [] ∷ []) (100 ∷ 100 ∷ 57 ∷ [])) (19 ∷ 0 ∷ repeated 4 (zeros 0 0)) ∷
    []

pub joint-right : T (all right joint_rows)
unfolding computing ExampleRows.opened first_and_last
joint-right = tt
