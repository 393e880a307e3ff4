-- The examples that documents 01 and 02 state, and a text against each reading that is tempting and wrong. The crate `examples` has
-- rows for every sentence, and the common theorem.
use mathlib.Core.List.{List, [], ◌∷◌, ◌++◌}
use lib.Dec.{T}
use lib.ListN.{replicate}
use Rattle.rules.specs.Base.{all}
use Rattle.rules.specs.Calls.{computing}
use Rattle.rules.specs.Printed as Printed
use Rattle.rules.proofs.ExampleRows as ExampleRows
use Rattle.rules.proofs.ExampleRows.{Row, check, run, trial, lean, bound, fill, count, print, row, three, zeros, repeated, right, text, with_line, times, one_line, script, numbers, method}
use Rattle.rules.proofs.ExampleTexts as ExampleTexts
use Rattle.rules.proofs.ExampleTexts.{worked, alias, across_call, twice, old_value, two_fields, branching, inner_join, through_path, over_two_paths, one_name, one_on_both_sides, counting, walk, leaving, unframed, deep, lower, rings, tens, walked, cards, linked, shut_both, ring, of_chain, of_two, with_card, filling, two_stars, wide}

abbrev pub rows : List Row
rows =
    row worked check (0 ∷ 0 ∷ []) ∷
    row worked (run 1000) (0 ∷ 19 ∷ 8 ∷ three 1 7 7) ∷
    row worked print (text ("check 0 0" ∷ "run 0 19 8" ∷ "var s 1" ∷ "var a 7" ∷ "var b 7" ∷ [])) ∷
    row (with_line 5 "requires" worked) check (12 ∷ 7 ∷ []) ∷
    row (with_line 5 "requires" worked) (trial 1000) (24 ∷ 7 ∷ 3 ∷ three 1 7 0) ∷
    row (with_line 17 "assert eq s.n 8" worked) check (13 ∷ 17 ∷ []) ∷
    row (with_line 17 "assert eq s.n 8" worked) (trial 1000) (26 ∷ 17 ∷ 5 ∷ three 1 7 7) ∷
    row worked (run 7) (21 ∷ 19 ∷ 7 ∷ three 1 7 7) ∷
    row worked (run 8) (0 ∷ 19 ∷ 8 ∷ three 1 7 7) ∷
    row worked (run 0) (21 ∷ 14 ∷ 0 ∷ three 0 0 0) ∷
    row worked (run 4294967295) (0 ∷ 19 ∷ 8 ∷ three 1 7 7) ∷
    row (with_line 18 "release acc s n acc s n" worked) check (12 ∷ 18 ∷ []) ∷
    row (with_line 16 "call a s tag a" worked) check (9 ∷ 16 ∷ []) ∷
    row [] check (8 ∷ 0 ∷ []) ∷
    row (one_line "let a 2147483647") (run 9) (0 ∷ 4 ∷ 2 ∷ three 2147483647 0 0) ∷
    row (one_line "let a 2147483648") check (4 ∷ 3 ∷ []) ∷
    row (one_line "let a -2147483648") print (text ("check 0 0" ∷ "run 0 4 2" ∷ "var a -2147483648" ∷ [])) ∷
    row ("class S" ∷ "main" ∷ "var S s" ∷ (times 256 "new s S" ++ ("end" ∷ []))) check (5 ∷ 260 ∷ []) ∷
    -- "Tempting, each wrong"
    row alias check (0 ∷ 0 ∷ []) ∷
    row across_call check (13 ∷ 15 ∷ []) ∷
    row twice check (12 ∷ 11 ∷ []) ∷
    row twice (trial 1000) (24 ∷ 11 ∷ 1 ∷ three 1 0 0) ∷
    row old_value check (13 ∷ 7 ∷ []) ∷
    -- W1: "−2147483648 less 1 does, −2147483647 less 1 doesn't"
    row (counting "let b -2147483648" "let c 1" "sub a b c") (run 9) (27 ∷ 7 ∷ 2 ∷ three 0 2147483648 1) ∷
    row (counting "let b -2147483647" "let c 1" "sub a b c") (run 9) (0 ∷ 8 ∷ 4 ∷ three 2147483648 2147483649 1) ∷
    row (counting "let b 2147483647" "let c 1" "add b b c") (run 9) (27 ∷ 7 ∷ 2 ∷ three 0 2147483647 1) ∷
    row (counting "let b 2147483647" "let c -2147483648" "add b b c") (run 9) (0 ∷ 8 ∷ 4 ∷ three 0 4294967295 2147483648) ∷
    row (counting "let b 1" "add b b b" "assert eq b 2") check (13 ∷ 7 ∷ []) ∷
    row (counting "let b 1" "add b b b" "assert eq b 1") check (13 ∷ 7 ∷ []) ∷
    row (counting "let b 1" "let c b" "sub b b c") check (0 ∷ 0 ∷ []) ∷
    row (with_line 7 "add k k k" worked) check (9 ∷ 7 ∷ []) ∷
    row (with_line 7 "add this k k" worked) check (7 ∷ 7 ∷ []) ∷
    -- W2: "The checker shows ensures at that line"; the machine tests it there, with the step not counted
    row (with_line 7 "assert eq k k" worked) check (13 ∷ 8 ∷ []) ∷
    row (with_line 7 "assert eq k k" worked) (trial 1000) (26 ∷ 8 ∷ 4 ∷ three 1 7 0) ∷
    -- "A statement between it and the next `else`, `join` or `end` is number 4."
    row (with_line 7 "return k" worked) check (4 ∷ 8 ∷ []) ∷
    row (branching "assert" "return w" "assert" "join") check (4 ∷ 9 ∷ []) ∷
    -- "A branch whose last line is a `return` has no end to show at `join`", the other has; after it the formula alone is known
    row (branching "return w" "return w" "join eq 1 2 eq result w" "assert eq 1 2") check (0 ∷ 0 ∷ []) ∷
    row (branching "return w" "return w" "join eq 1 2 eq result w" "assert eq 1 2") (run 1000) (0 ∷ 19 ∷ 6 ∷ three 1 1 1) ∷
    row (branching "return w" "assert" "join eq result w" "assert") check (13 ∷ 9 ∷ []) ∷
    row (branching "assert" "return w" "join eq result w" "assert") check (13 ∷ 9 ∷ []) ∷
    row (branching "return w" "assert ne w 1" "join" "assert ne w 1") check (13 ∷ 10 ∷ []) ∷
    row inner_join check (13 ∷ 13 ∷ []) ∷
    -- "an `end` straight after a `return` shows nothing", every other does, also where no run comes
    row (branching "assert" "assert" "join" "return w") check (0 ∷ 0 ∷ []) ∷
    row (branching "return w" "return w" "join" "assert") check (13 ∷ 11 ∷ []) ∷
    -- W3: "two terms that are left shall be ~ exactly if they were ~ before"
    row (through_path "set s n c" "assert eq a b") check (0 ∷ 0 ∷ []) ∷
    row (through_path "release acc s n" "assert eq a b") check (0 ∷ 0 ∷ []) ∷
    row (through_path "let s s.prev" "assert eq a b") check (0 ∷ 0 ∷ []) ∷
    row (through_path "let a c" "assert eq a b") check (13 ∷ 14 ∷ []) ∷
    row over_two_paths check (0 ∷ 0 ∷ []) ∷
    row (script ("new s S" ∷ "set s n a" ∷ "if ne s.n 7" ∷ "release acc s n" ∷ "assert ne a 7" ∷ "else" ∷ "join" ∷ [])) check (0 ∷ 0 ∷ []) ∷
    -- "For `set`, the old value of the path counts as dropped, and `let` takes the successor for its r."
    row (through_path "set s n c" "assert eq s.n b") check (13 ∷ 14 ∷ []) ∷
    row (through_path "let s s.prev" "assert eq s null") check (0 ∷ 0 ∷ []) ∷
    -- "`set` apart, a name still listed is not dropped"
    row (one_name "release acc s n") check (0 ∷ 0 ∷ []) ∷
    row (one_name "set s n a") check (13 ∷ 15 ∷ []) ∷
    -- "An equality that now has one term on both sides goes too"
    row (one_on_both_sides 9) check (0 ∷ 0 ∷ []) ∷
    -- W4: "−2147483648 still reads, and `-0` is still number 4"
    row (one_line "let a -2147483648") (run 9) (0 ∷ 4 ∷ 2 ∷ three 2147483648 0 0) ∷
    row (one_line "let a -1") (run 9) (0 ∷ 4 ∷ 2 ∷ three 4294967295 0 0) ∷
    row (one_line "let a -2147483649") check (4 ∷ 3 ∷ []) ∷
    row (one_line "let a -0") check (4 ∷ 3 ∷ []) ∷
    row (one_line "let a -") check (4 ∷ 3 ∷ []) ∷
    row (one_line "let a -01") check (4 ∷ 3 ∷ []) ∷
    row (one_line "let a 00") check (4 ∷ 3 ∷ []) ∷
    row (one_line "let a 0") check (0 ∷ 0 ∷ []) ∷
    -- W5: "Each arrival at `loop` is a step that tests the invariant, then the condition, and if that is false goes on after `again`;
    -- `again` is a step back to it."
    row (walk "loop ne a 3 acc s n") check (0 ∷ 0 ∷ []) ∷
    row (walk "loop ne a 3 acc s n") (run 1000) (0 ∷ 18 ∷ 24 ∷ three 1 3 1) ∷
    row (numbers ("let c 1" ∷ "loop ne a 2" ∷ "loop ne b 2" ∷ "add b b c" ∷ "again" ∷ "add a a c" ∷ "again" ∷ [])) (run 1000)
    (0 ∷ 12 ∷ 17 ∷ three 2 2 1) ∷
    row (counting "let b 3" "loop ne b 3 eq b 4" "again") (trial 9) (26 ∷ 6 ∷ 1 ∷ three 0 3 0) ∷
    row (walk "loop ne a 3 acc s n eq s.n 0") (trial 1000) (26 ∷ 9 ∷ 15 ∷ three 1 2 1) ∷
    -- "Each arrival at `loop` is a step that tests the invariant, then the condition"
    row (script ("loop eq s.n 1 eq a 1" ∷ "again" ∷ [])) (trial 9) (26 ∷ 10 ∷ 0 ∷ three 0 0 0) ∷
    -- "At `loop` the state shows the invariant. The body starts from the invariant and the condition alone, and its end shows the
    -- invariant at `again`. The state afterwards is the invariant and the opposite alone."
    row (walk "loop ne a 3 acc s n eq a 0") check (13 ∷ 9 ∷ []) ∷
    row (walk "loop ne a 3") check (12 ∷ 10 ∷ []) ∷
    row (with_line 10 "assert eq i 1" (walk "loop ne a 3 acc s n")) check (13 ∷ 10 ∷ []) ∷
    row (with_line 10 "assert acc s n ne a 3" (walk "loop ne a 3 acc s n")) check (0 ∷ 0 ∷ []) ∷
    row (walk "loop ne a 3 acc s n eq s.n 0") check (13 ∷ 16 ∷ []) ∷
    row (with_line 17 "assert acc s n" (walk "loop ne a 3 acc s n")) check (0 ∷ 0 ∷ []) ∷
    row (with_line 17 "assert eq i 1" (walk "loop ne a 3 acc s n")) check (13 ∷ 17 ∷ []) ∷
    row (script ("new s S" ∷ "loop ne a a" ∷ "again" ∷ "assert acc s n" ∷ [])) check (12 ∷ 13 ∷ []) ∷
    row (script ("new s S" ∷ "loop ne a a" ∷ "again" ∷ "assert acc s n" ∷ [])) (trial 9) (0 ∷ 14 ∷ 4 ∷ three 1 0 0) ∷
    -- "The invariant, and the condition after it, read only paths that the invariant holds"
    row (walk "loop ne s.n 3 acc s n") check (13 ∷ 17 ∷ []) ∷
    row (walk "loop ne s.n 3") check (10 ∷ 9 ∷ []) ∷
    row (walk "loop ne a 3 eq a s.n acc s n") check (10 ∷ 9 ∷ []) ∷
    -- "A `return` may also stand last before `again`, which then shows nothing."
    row (leaving "return w") check (0 ∷ 0 ∷ []) ∷
    row (leaving "return w") (run 1000) (0 ∷ 19 ∷ 7 ∷ three 1 0 0) ∷
    row (leaving "assert") check (13 ∷ 10 ∷ []) ∷
    row (with_line 8 "return w" (leaving "assert")) check (4 ∷ 9 ∷ []) ∷
    -- "a condition atom (`eq` or `ne`) and then the atoms of an invariant, at most 8; `again` closes it"
    row (walk "loop ne a 3 acc s n eq a a eq a a eq a a eq a a eq a a eq a a eq a a") check (0 ∷ 0 ∷ []) ∷
    row (walk "loop ne a 3 acc s n eq a a eq a a eq a a eq a a eq a a eq a a eq a a eq a a") check (4 ∷ 9 ∷ []) ∷
    row (walk "loop") check (4 ∷ 9 ∷ []) ∷
    row (walk "loop acc s n ne a 3") check (4 ∷ 9 ∷ []) ∷
    row (with_line 16 "again eq a a" (walk "loop ne a 3 acc s n")) check (4 ∷ 16 ∷ []) ∷
    row (with_line 15 "again" (walk "loop ne a 3 acc s n")) check (4 ∷ 15 ∷ []) ∷
    row (with_line 16 "end" (walk "loop ne a 3 acc s n")) check (4 ∷ 16 ∷ []) ∷
    -- "Loops count toward the nesting limit of 4, both lines toward the 256."
    row (numbers ("if eq a b" ∷ times 4 "loop eq a b")) check (5 ∷ 9 ∷ []) ∷
    row ("class S" ∷ "main" ∷ "var S s" ∷ (times 254 "new s S" ++ ("loop ne s s" ∷ "again" ∷ "end" ∷ []))) check (5 ∷ 260 ∷ []) ∷
    -- W6: "its statement lines plus, for each `call` line, the bound of the method called"; "main's counted"
    row worked bound (0 ∷ 0 ∷ 9 ∷ 2 ∷ []) ∷
    row (with_line 17 "call b s tag a" worked) bound (0 ∷ 0 ∷ 12 ∷ 2 ∷ []) ∷
    row (one_line "assert") bound (0 ∷ 0 ∷ 2 ∷ 1 ∷ []) ∷
    -- "after every check of document 01"
    row (with_line 5 "requires" worked) bound (12 ∷ 7 ∷ 0 ∷ 0 ∷ []) ∷
    -- "15 at the first line that is a `loop` or a `call` whose method is, or can reach by calls, the method that the line is in"
    row rings bound (15 ∷ 12 ∷ 0 ∷ 0 ∷ []) ∷
    row (with_line 12 "call a this there w" rings) bound (15 ∷ 12 ∷ 0 ∷ 0 ∷ []) ∷
    row (with_line 18 "assert" rings) bound (0 ∷ 0 ∷ 9 ∷ 4 ∷ []) ∷
    row (walk "loop ne a 3 acc s n") bound (15 ∷ 9 ∷ 0 ∷ 0 ∷ []) ∷
    row (("class S" ∷ method "method int m int w" ("loop ne w w" ∷ "again" ∷ [])) ++ ("main" ∷ "end" ∷ [])) bound (15 ∷ 6 ∷ 0 ∷ 0 ∷ []) ∷
    -- "16 at line 0 if the bound passes 1,000,000"
    row (tens []) bound (0 ∷ 0 ∷ 1000000 ∷ 7 ∷ []) ∷
    row (tens ("assert" ∷ [])) bound (16 ∷ 0 ∷ 0 ∷ 0 ∷ []) ∷
    -- W7: "a text that the check refuses gets the check's number and line, with zeros in results"
    row (with_line 5 "requires" worked) (run 1000) (12 ∷ 7 ∷ 0 ∷ three 0 0 0) ∷
    row (with_line 17 "assert eq s.n 8" worked) (run 0) (13 ∷ 17 ∷ 0 ∷ three 0 0 0) ∷
    row (with_line 16 "call a s tag a" worked) (run 1000) (9 ∷ 16 ∷ 0 ∷ three 0 0 0) ∷
    row (with_line 16 "call a s tag a" worked) (trial 1000) (9 ∷ 16 ∷ 0 ∷ three 0 0 0) ∷
    -- "trial, which is the old run": no test after 9 is made, number 10 neither; "The program of document 01" uses it
    row unframed (run 1000) (10 ∷ 6 ∷ 0 ∷ three 0 0 0) ∷
    row unframed (trial 1000) (0 ∷ 19 ∷ 8 ∷ three 1 7 7) ∷
    row (with_line 5 "requires" worked) print (text ("check 12 7" ∷ "run 24 7 3" ∷ "var s 1" ∷ "var a 7" ∷ "var b 0" ∷ [])) ∷
    -- "An accepted text gets the same from both."
    row worked (trial 1000) (0 ∷ 19 ∷ 8 ∷ three 1 7 7) ∷
    row worked (trial 7) (21 ∷ 19 ∷ 7 ∷ three 1 7 7) ∷
    -- the same field in way (d); the lower of two numbers; what ensures does not hand back is lost
    row two_fields check (13 ∷ 7 ∷ []) ∷
    row lower check (6 ∷ 3 ∷ []) ∷
    -- "`call`: null receiver, then requires, then frames full"
    row (deep "requires ne w 64") (trial 1000) (23 ∷ 9 ∷ 190 ∷ three 1 0 0) ∷
    row (deep "requires ne w 63") (trial 1000) (26 ∷ 9 ∷ 190 ∷ three 1 0 0) ∷
    -- "then line by line 10; then the rules below in order of lines"
    row (script ("assert eq a 1" ∷ "if eq a b" ∷ "else" ∷ "join eq s.n 1" ∷ [])) check (10 ∷ 13 ∷ []) ∷
    row (with_line 6 "ensures" worked) check (11 ∷ 17 ∷ []) ∷
    row (with_line 6 "ensures" worked) (trial 1000) (24 ∷ 17 ∷ 5 ∷ three 1 7 7) ∷
    -- W8: "taken from an `acc` it leaves a `read` of that path"; "Way (d) of showing `ne` needs an `acc` among the two."
    row (with_card ("release read s n" ∷ "assert acc s n" ∷ [])) check (12 ∷ 12 ∷ []) ∷
    row (of_two "requires read this n read w n" ("assert ne this w" ∷ [])) check (13 ∷ 6 ∷ []) ∷
    -- W9: "A recursive walk over a chain must pass the check", and two cards that link to each other are no chain
    row walked check (0 ∷ 0 ∷ []) ∷
    row walked (run 1000) (0 ∷ 36 ∷ 33 ∷ 2 ∷ 2 ∷ 3 ∷ 7 ∷ 7 ∷ 0 ∷ 0 ∷ 0 ∷ 0 ∷ 0 ∷ 0 ∷ 0 ∷ []) ∷
    row (ring ("assert chain s prev" ∷ [])) check (12 ∷ 12 ∷ []) ∷
    row (ring ("assert chain s prev" ∷ [])) (trial 1000) (26 ∷ 12 ∷ 4 ∷ three 1 2 0) ∷
    -- a chain is no listed path, and does not show x ≠ null
    row (shut_both ("assert eq s.prev t" ∷ [])) check (11 ∷ 13 ∷ []) ∷
    row (of_chain "requires chain w prev" ("assert ne w null" ∷ [])) check (13 ∷ 7 ∷ []) ∷
    row (cards ("let s null" ∷ "open t s prev" ∷ [])) check (13 ∷ 9 ∷ []) ∷
    -- `open` removes y, `shut` takes the chain of the value
    row (shut_both ("new u S" ∷ "open u s prev" ∷ "assert acc u n" ∷ [])) check (12 ∷ 15 ∷ []) ∷
    row (shut_both ("assert chain t prev" ∷ [])) check (12 ∷ 13 ∷ []) ∷
    -- the walk goes to the last card, and two chains share none
    row (linked ("release read t prev" ∷ "assert chain s prev" ∷ [])) (trial 1000) (24 ∷ 12 ∷ 4 ∷ three 1 2 0) ∷
    row (linked ("assert chain t prev chain s prev" ∷ [])) (trial 1000) (24 ∷ 11 ∷ 3 ∷ three 1 2 0) ∷
    -- W10: it "shall return the number, line, steps and values of run on every accepted text, with `release`, `assert` and `join` each
    -- still a step"
    row worked (lean 1000) (0 ∷ 19 ∷ 8 ∷ three 1 7 7) ∷
    row worked (lean 7) (21 ∷ 19 ∷ 7 ∷ three 1 7 7) ∷
    row (numbers ("let a 1" ∷ "if eq a 1" ∷ "let b 2" ∷ "else" ∷ "let b 3" ∷ "join" ∷ [])) (lean 9) (0 ∷ 11 ∷ 6 ∷ three 1 2 0) ∷
    row (walk "loop ne a 3 acc s n") (lean 1000) (0 ∷ 18 ∷ 24 ∷ three 1 3 1) ∷
    row walked (lean 1000) (0 ∷ 36 ∷ 33 ∷ 2 ∷ 2 ∷ 3 ∷ 7 ∷ 7 ∷ 0 ∷ 0 ∷ 0 ∷ 0 ∷ 0 ∷ 0 ∷ 0 ∷ []) ∷
    row (counting "let b 2147483647" "let c 1" "add b b c") (lean 9) (27 ∷ 7 ∷ 2 ∷ three 0 2147483647 1) ∷
    row (deep "requires ne this null") (lean 1000) (23 ∷ 9 ∷ 190 ∷ three 1 0 0) ∷
    -- "It checks first, as run does, and gives a refused text the same number, line and results."
    row (with_line 5 "requires" worked) (lean 1000) (12 ∷ 7 ∷ 0 ∷ three 0 0 0) ∷
    row unframed (lean 1000) (10 ∷ 6 ∷ 0 ∷ three 0 0 0) ∷
    -- W11: "the first set of at most 4 `acc` atoms, over the fields of `this` and then of w, with which the whole text, its length apart, is
    -- accepted"
    row (with_line 5 "requires *" worked) fill (0 ∷ 0 ∷ 2 ∷ 0 ∷ 0 ∷ 0 ∷ []) ∷
    -- "Fewer atoms come first, then the earlier place where two sets first differ"
    row (filling ("assert" ∷ [])) fill (0 ∷ 0 ∷ 0 ∷ 0 ∷ 0 ∷ 0 ∷ []) ∷
    row (filling ("assert ne this w" ∷ [])) fill (0 ∷ 0 ∷ 1 ∷ 4 ∷ 0 ∷ 0 ∷ []) ∷
    -- "the whole text": the caller's block, and a 10 to 14 in another
    row (with_line 14 "let s null" (with_line 5 "requires *" worked)) fill (17 ∷ 5 ∷ 0 ∷ 0 ∷ 0 ∷ 0 ∷ []) ∷
    row (with_line 17 "assert eq s.n 8" (with_line 5 "requires *" worked)) fill (17 ∷ 5 ∷ 0 ∷ 0 ∷ 0 ∷ 0 ∷ []) ∷
    row (with_line 5 "requires *" unframed) fill (17 ∷ 5 ∷ 0 ∷ 0 ∷ 0 ∷ 0 ∷ []) ∷
    -- "and with 18 at the second star, or at line 0 where there is none; both come after 9"
    row two_stars fill (18 ∷ 8 ∷ 0 ∷ 0 ∷ 0 ∷ 0 ∷ []) ∷
    row worked fill (18 ∷ 0 ∷ 0 ∷ 0 ∷ 0 ∷ 0 ∷ []) ∷
    row (with_line 10 "let w w" two_stars) fill (9 ∷ 10 ∷ 0 ∷ 0 ∷ 0 ∷ 0 ∷ []) ∷
    -- the form is `requires` and one field `*`, and in every other call that is number 4
    row (with_line 6 "requires * acc this n" (filling [])) fill (4 ∷ 6 ∷ 0 ∷ 0 ∷ 0 ∷ 0 ∷ []) ∷
    row (filling []) check (4 ∷ 6 ∷ []) ∷
    -- W12: "its own numbering, and one step a round, in order"
    row worked (count 2 1000 (worked ∷ []) (3 ∷ 3 ∷ [])) (0 ∷ 0 ∷ (repeated 2 (0 ∷ 19 ∷ 8 ∷ three 1 7 7) ++ repeated 2 (zeros 0 0))) ∷
    row worked (count 1 0 [] (256 ∷ [])) (0 ∷ 0 ∷ (zeros 21 14 ++ repeated 3 (zeros 0 0))) ∷
    -- "A script refused, finished or stopped is passed over; after r rounds any other has taken r steps, whatever the others do."
    row (with_line 5 "requires" worked) (count 4 6 (wide 1 ∷ one_line "assert" ∷ worked ∷ []) (1 ∷ 1 ∷ 1 ∷ 1 ∷ []))
    (0 ∷ 0 ∷ (zeros 12 7 ++ (zeros 22 9 ++ ((0 ∷ 4 ∷ 2 ∷ three 0 0 0) ++ (21 ∷ 18 ∷ 6 ∷ three 1 7 7))))) ∷
    -- "a share of k objects and 4 × k fields"
    row (script ("new s S" ∷ "new t S" ∷ "new s S" ∷ [])) (count 2 9 (script ("new s S" ∷ "new t S" ∷ "new s S" ∷ []) ∷ []) (2 ∷ 3 ∷ []))
    (0 ∷ 0 ∷ ((22 ∷ 12 ∷ 2 ∷ three 1 2 0) ++ ((0 ∷ 13 ∷ 4 ∷ three 3 2 0) ++ repeated 2 (zeros 0 0)))) ∷
    row (wide 2) (count 2 9 (wide 2 ∷ []) (2 ∷ 3 ∷ []))
    (0 ∷ 0 ∷ ((22 ∷ 10 ∷ 1 ∷ three 1 0 0) ++ ((0 ∷ 11 ∷ 3 ∷ three 2 0 0) ++ repeated 2 (zeros 0 0)))) ∷
    -- "No step changes a field in another's share"
    row (script ("new s S" ∷ "let a 1" ∷ "set s n a" ∷ "let b s.n" ∷ []))
    (count 2 9 (script ("new s S" ∷ "let a 2" ∷ "set s n a" ∷ "let b s.n" ∷ []) ∷ []) (1 ∷ 1 ∷ []))
    (0 ∷ 0 ∷ ((0 ∷ 14 ∷ 5 ∷ 1 ∷ 0 ∷ 1 ∷ 1 ∷ replicate 8 0) ++ ((0 ∷ 14 ∷ 5 ∷ 1 ∷ 0 ∷ 2 ∷ 2 ∷ replicate 8 0) ++ repeated 2 (zeros 0 0)))) ∷
    -- "with 19 at line 0, .. before any script is read, if there are no scripts, more than four, or shares that are 0 or sum above 256"
    row worked (count 0 9 [] (1 ∷ 1 ∷ 1 ∷ 1 ∷ [])) (19 ∷ 0 ∷ repeated 4 (zeros 0 0)) ∷
    row worked (count 5 9 (worked ∷ worked ∷ worked ∷ []) (1 ∷ 1 ∷ 1 ∷ 1 ∷ [])) (19 ∷ 0 ∷ repeated 4 (zeros 0 0)) ∷
    row [] (count 2 9 ([] ∷ []) (1 ∷ 0 ∷ [])) (19 ∷ 0 ∷ repeated 4 (zeros 0 0)) ∷
    row worked (count 2 8 (worked ∷ []) (128 ∷ 129 ∷ [])) (19 ∷ 0 ∷ repeated 4 (zeros 0 0)) ∷
    row worked (count 2 8 (worked ∷ []) (4294967295 ∷ 2 ∷ [])) (19 ∷ 0 ∷ repeated 4 (zeros 0 0)) ∷
    row worked (count 2 8 (worked ∷ []) (255 ∷ 1 ∷ [])) (0 ∷ 0 ∷ (repeated 2 (0 ∷ 19 ∷ 8 ∷ three 1 7 7) ++ repeated 2 (zeros 0 0))) ∷
    -- "Texts and shares past the count are not looked at, and their results are zeros"
    row worked (count 1 8 ([] ∷ worked ∷ worked ∷ []) (256 ∷ 0 ∷ 1 ∷ 999 ∷ [])) (0 ∷ 0 ∷ ((0 ∷ 19 ∷ 8 ∷ three 1 7 7) ++ repeated 3 (zeros 0 0))) ∷
    []

pub rows_right : T (all right rows)
unfolding computing Printed.opened ExampleRows.opened ExampleTexts.opened
rows_right = tt
