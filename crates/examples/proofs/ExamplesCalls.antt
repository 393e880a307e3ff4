-- Examples of bounds, of what the calls leave in the lent areas, and of what the program prints.
use mathlib.Core.List.{List, [], ◌∷◌, ◌++◌}
use Prim.Native.String.{String}
use lib.Dec.{T}
use lib.ListN.{replicate}
use Rattle.rules.specs.Base.{all}
use Rattle.rules.specs.Calls.{computing}
use Rattle.rules.specs.Areas as Areas
use Rattle.rules.specs.Printed as Printed
use Rattle.rules.proofs.ExampleRows as ExampleRows
use Rattle.rules.proofs.ExampleRows.{Row, right, bound, fill, print, check_in, run_in, trial_in, lean_in, bound_in, fill_in, count_in, row, text, lent, with_line, one_line, numbers, method}
use Rattle.rules.proofs.ExampleTexts as ExampleTexts
use Rattle.rules.proofs.ExampleTexts.{filling}

-- three methods with these lines, and an empty main
pub three_methods : List String → List String → List String → List String
three_methods a b c =
    ("class S" ∷ method "method int m int w" a)
    ++ (method "method int n int w" b ++ (method "method int o int w" c ++ ("main" ∷ "end" ∷ [])))

-- a method with a local, and main with one
pub two_blocks : List String
two_blocks = "class S" ∷ (method "method int m int w" [] ++ ("main" ∷ "var int b" ∷ "let b -7" ∷ "end" ∷ []))

abbrev pub call_rows : List Row
call_rows =
    -- "or can reach by calls, the method that the line is in": by three
    row (three_methods ("call a this n w" ∷ []) ("call a this o w" ∷ []) ("call a this m w" ∷ [])) bound (15 ∷ 6 ∷ 0 ∷ 0 ∷ []) ∷
    -- "with 15 at the first line"
    row (three_methods ("call a this o w" ∷ []) ("loop ne w w" ∷ "again" ∷ []) ("loop ne w w" ∷ "again" ∷ [])) bound (15 ∷ 12 ∷ 0 ∷ 0 ∷ []) ∷
    -- "Each returns number × 65,536 + line."; "After each call the work area is all zero, except for number 1."
    row (one_line "let a b") (check_in 65536) (393219 ∷ 65536 ∷ 0 ∷ []) ∷
    row (one_line "let a b") (check_in 3) (65536 ∷ 3 ∷ 21 ∷ []) ∷
    -- "Results hold the steps taken (unsigned) and twelve values, main's variables in order of `var` lines, then zeros; each is 4 bytes,
    -- low byte first, values signed."
    row (numbers ("let a 258" ∷ "let b -2" ∷ [])) (run_in 65536 9 52)
    (7 ∷ 65536 ∷ 0 ∷ 3 ∷ 0 ∷ 0 ∷ 0 ∷ 2 ∷ 1 ∷ 0 ∷ 0 ∷ 254 ∷ 255 ∷ 255 ∷ 255 ∷ replicate 40 0) ∷
    -- W7: "trial, which is the old run"; W10: "It checks first, as run does, and gives a refused text the same number, line and results."
    row (numbers ("assert eq a 1" ∷ [])) (trial_in 65536 9 52) (1703941 ∷ 65536 ∷ 0 ∷ replicate 52 0) ∷
    row (numbers ("assert eq a 1" ∷ [])) (lean_in 65536 9 52) (851973 ∷ 65536 ∷ 0 ∷ replicate 52 0) ∷
    -- "unchanged, work area too"
    row (one_line "assert") (run_in 3 9 52) (65536 ∷ 3 ∷ 21 ∷ lent 52) ∷
    row (one_line "assert") (run_in 65536 9 48) (65536 ∷ 65536 ∷ 458752 ∷ lent 48) ∷
    -- "The call fills 8 bytes, 4 each: main's bound and the most frames on a route of calls"; "under the same rows of the table"
    row (one_line "assert") (bound_in 65536 8) (0 ∷ 65536 ∷ 0 ∷ 2 ∷ 0 ∷ 0 ∷ 0 ∷ 1 ∷ 0 ∷ 0 ∷ 0 ∷ []) ∷
    row (one_line "assert") (bound_in 65536 4) (65536 ∷ 65536 ∷ 458752 ∷ lent 4) ∷
    -- W11: "The answer is 4 bytes, the atoms' places from 1, rising, then zeros; a refusal has only zeros."
    row (filling ("let a this.n" ∷ [])) (fill_in 65536 4) (0 ∷ 65536 ∷ 0 ∷ 2 ∷ 0 ∷ 0 ∷ 0 ∷ []) ∷
    row (filling ("assert eq 1 2" ∷ [])) (fill_in 65536 4) (1114118 ∷ 65536 ∷ 0 ∷ 0 ∷ 0 ∷ 0 ∷ 0 ∷ []) ∷
    row (filling []) (fill_in 65536 5) (65536 ∷ 65536 ∷ 458752 ∷ lent 5) ∷
    row (filling []) (fill_in 65535 4) (65536 ∷ 65535 ∷ 458745 ∷ lent 4) ∷
    -- "the first set of at most 4 `acc` atoms, over the fields of `this` and then of w"
    row (filling ("set w k a" ∷ "set w n a" ∷ "set this k a" ∷ "set this n a" ∷ [])) fill (0 ∷ 0 ∷ 2 ∷ 3 ∷ 5 ∷ 6 ∷ []) ∷
    row (filling ("set w k a" ∷ "set w n a" ∷ "set this k a" ∷ "set this n a" ∷ "set w p this" ∷ [])) fill
    (17 ∷ 6 ∷ 0 ∷ 0 ∷ 0 ∷ 0 ∷ []) ∷
    -- "one method may have the star"; an int w has no fields
    row (with_line 5 "method int m int w" (filling ("set this k a" ∷ []))) fill (0 ∷ 0 ∷ 3 ∷ 0 ∷ 0 ∷ 0 ∷ []) ∷
    row (with_line 5 "method int m int w" (filling ("set w k a" ∷ []))) fill (7 ∷ 9 ∷ 0 ∷ 0 ∷ 0 ∷ 0 ∷ []) ∷
    row (filling ("let a w.k" ∷ [])) fill (0 ∷ 0 ∷ 6 ∷ 0 ∷ 0 ∷ 0 ∷ []) ∷
    row (with_line 7 "ensures acc w p" (filling [])) fill (0 ∷ 0 ∷ 4 ∷ 0 ∷ 0 ∷ 0 ∷ []) ∷
    row (with_line 7 "ensures *" (filling [])) fill (4 ∷ 7 ∷ 0 ∷ 0 ∷ 0 ∷ 0 ∷ []) ∷
    row (filling ("assert *" ∷ [])) fill (4 ∷ 9 ∷ 0 ∷ 0 ∷ 0 ∷ 0 ∷ []) ∷
    row [] fill (8 ∷ 0 ∷ 0 ∷ 0 ∷ 0 ∷ 0 ∷ []) ∷
    -- "56 bytes: what run returns, then results"; "Texts and shares past the count are not looked at, and their results are zeros"
    row (numbers ("let a 258" ∷ "let b -2" ∷ [])) (count_in 65536 224 2 9 (one_line "let a b" ∷ [] ∷ [] ∷ []) (1 ∷ 255 ∷ 0 ∷ 0 ∷ []))
    (0 ∷ 65536 ∷ 0 ∷ 7 ∷ 0 ∷ 0 ∷ 0 ∷ 3 ∷ 0 ∷ 0 ∷ 0 ∷ 2 ∷ 1 ∷ 0 ∷ 0 ∷ 254 ∷ 255 ∷ 255 ∷ 255 ∷ (replicate 40 0 ++ (3 ∷ 0 ∷ 6 ∷ 0 ∷ replicate 164 0))) ∷
    -- "It refuses with 19 at line 0, zeros in all results, after number 1"
    row (one_line "assert") (count_in 65536 224 0 9 ([] ∷ [] ∷ [] ∷ []) (1 ∷ 1 ∷ 1 ∷ 1 ∷ [])) (1245184 ∷ 65536 ∷ 0 ∷ replicate 224 0) ∷
    row (one_line "assert") (count_in 3 224 0 9 ([] ∷ [] ∷ [] ∷ []) (1 ∷ 1 ∷ 1 ∷ 1 ∷ [])) (65536 ∷ 3 ∷ 21 ∷ lent 224) ∷
    row (one_line "assert") (count_in 65536 52 1 9 ([] ∷ [] ∷ [] ∷ []) (1 ∷ 1 ∷ 1 ∷ 1 ∷ [])) (65536 ∷ 65536 ∷ 458752 ∷ lent 52) ∷
    -- "then, unless the number is 1 to 9, `run` number line steps, and `var` name value for each"
    row (three_methods ("let w w" ∷ []) [] []) print (text ("check 9 6" ∷ [])) ∷
    row [] print (text ("check 8 0" ∷ [])) ∷
    row two_blocks print (text ("check 0 0" ∷ "run 0 10 2" ∷ "var b -7" ∷ [])) ∷
    -- The program "allows 1,000 steps".
    row (numbers ("loop eq a a" ∷ "again" ∷ [])) print (text ("check 0 0" ∷ "run 21 5 1000" ∷ "var a 0" ∷ "var b 0" ∷ "var c 0" ∷ [])) ∷
    []

pub calls-right : T (all right call_rows)
unfolding computing Printed.opened Areas.opened ExampleRows.opened ExampleTexts.opened three_methods two_blocks
calls-right = tt
