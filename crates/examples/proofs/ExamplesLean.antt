-- Examples of the lean machine (W10): its stops, and the lines that are steps without a test.
use mathlib.Core.List.{List, [], ◌∷◌, ◌++◌}
use Prim.Native.Nat.{ℕ}
use Prim.Native.String.{String}
use lib.Dec.{T}
use Rattle.rules.specs.Base.{all}
use Rattle.rules.specs.Calls.{computing}
use Rattle.rules.proofs.ExampleRows as ExampleRows
use Rattle.rules.proofs.ExampleRows.{Row, right, lean, row, three, times, method}
use Rattle.rules.proofs.ExampleTexts as ExampleTexts
use Rattle.rules.proofs.ExampleTexts.{with_card, counting}

-- so many objects a round for 16 rounds, and one more; their class has these fields
pub crowded : List String → ℕ → List String
crowded fs n =
    "class A" ∷
    (fs
    ++ ("main" ∷
    "var A s" ∷
    "var int a" ∷
    "var int i" ∷
    "let i 1" ∷
    "loop ne a 16" ∷
    (times n "new s A" ++ ("add a a i" ∷ "again" ∷ "new s A" ∷ "end" ∷ []))))

pub eight : List String
eight =
    "field int f" ∷
    "field int g" ∷
    "field int h" ∷
    "field int i" ∷
    "field int j" ∷
    "field int k" ∷
    "field int l" ∷
    "field int m" ∷
    []

-- a method without a `return`, called for b
pub unreturned : List String
unreturned =
    ("class S" ∷ method "method int m int w" [])
    ++ ("main" ∷ "var S s" ∷ "var int a" ∷ "var int b" ∷ "new s S" ∷ "let a 7" ∷ "let b 5" ∷ "call b s m a" ∷ "end" ∷ [])

abbrev pub lean_rows : List Row
lean_rows =
    -- "with `release`, `assert` and `join` each still a step"
    row (with_card ("release acc s n" ∷ [])) (lean 9) (0 ∷ 12 ∷ 3 ∷ three 1 0 0) ∷
    -- "the number, line, steps and values of run": 22 at the 257th object and at the 1,025th field
    row (crowded [] 16) (lean 999) (22 ∷ 26 ∷ 306 ∷ three 256 16 1) ∷
    row (crowded eight 8) (lean 999) (22 ∷ 26 ∷ 178 ∷ three 128 16 1) ∷
    -- "A run tests 21 before each step", also before one that stops
    row (counting "let b 2147483647" "let c 1" "add b b c") (lean 2) (21 ∷ 7 ∷ 2 ∷ three 0 2147483647 1) ∷
    -- "Variables and `result` start as null or 0": so the caller's x gets 0 at an `end`
    row unreturned (lean 9) (0 ∷ 15 ∷ 6 ∷ three 1 7 0) ∷
    []

pub lean-right : T (all right lean_rows)
unfolding computing ExampleRows.opened ExampleTexts.opened crowded eight unreturned
lean-right = tt
