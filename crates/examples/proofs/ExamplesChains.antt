-- Examples of chains (W9): form and names, shown and added, `open` and `shut`, the machine's walk, rings, chains handed over.
use mathlib.Core.List.{List, [], ◌∷◌, ◌++◌}
use Prim.Native.String.{String}
use lib.Dec.{T}
use Rattle.rules.specs.Base.{all}
use Rattle.rules.specs.Calls.{computing}
use Rattle.rules.proofs.ExampleRows as ExampleRows
use Rattle.rules.proofs.ExampleTexts as ExampleTexts
use Rattle.rules.proofs.ExampleTexts.{cards, linked, shut_both, ring, of_chain}
use Rattle.rules.proofs.ExampleRows.{Row, right, check, run, trial, bound, row, three, with_line}

-- a chain that grows in a loop, which also has half of another card
pub grown : List String
grown =
    "class S" ∷
    "field S prev" ∷
    "field int n" ∷
    "main" ∷
    "var S s" ∷
    "var S t" ∷
    "var S h" ∷
    "var int i" ∷
    "var int one" ∷
    "new h S" ∷
    "let one 1" ∷
    "let s null" ∷
    "loop ne i 3 chain s prev read h n eq h.n 0" ∷
    "new t S" ∷
    "set t prev s" ∷
    "shut t prev" ∷
    "let s t" ∷
    "add i i one" ∷
    "again" ∷
    "assert chain s prev read h n eq i 3" ∷
    "end" ∷
    []

-- a class whose field is another's, and a main with one line, line 6
pub of_other : String → List String
of_other l = "class S" ∷ "class R" ∷ "field S prev" ∷ "main" ∷ "var R r" ∷ l ∷ "end" ∷ []

-- eight chains from each of seven calls, eight permissions from `new`, and these lines, from line 39 on
pub crowded : List String → List String
crowded ls =
    "class S" ∷
    "field S prev" ∷
    "field int a" ∷
    "field int b" ∷
    "field int c" ∷
    "field int d" ∷
    "field int e" ∷
    "field int f" ∷
    "field int g" ∷
    "class Q" ∷
    "method S none int w" ∷
    "requires" ∷
    "ensures chain result prev chain result prev chain result prev chain result prev chain result prev chain result prev chain result prev chain result prev" ∷
    "var S s" ∷
    "let s null" ∷
    "return s" ∷
    "end" ∷
    "main" ∷
    "var S i" ∷
    "var S j" ∷
    "var S k" ∷
    "var S l" ∷
    "var S m" ∷
    "var S n" ∷
    "var S o" ∷
    "var S s" ∷
    "var S t" ∷
    "var Q q" ∷
    "var int w" ∷
    "new q Q" ∷
    "call i q none w" ∷
    "call j q none w" ∷
    "call k q none w" ∷
    "call l q none w" ∷
    "call m q none w" ∷
    "call n q none w" ∷
    "call o q none w" ∷
    "new s S" ∷
    (ls ++ ("end" ∷ []))

-- s is handed over, and this line, line 15, follows
pub handed : String → List String
handed l =
    "class S" ∷
    "field S prev" ∷
    "method int keep int k" ∷
    "requires chain this prev" ∷
    "ensures" ∷
    "end" ∷
    "main" ∷
    "var S s" ∷
    "var int a" ∷
    "var int b" ∷
    "new s S" ∷
    "shut s prev" ∷
    "assert ne s null" ∷
    "call b s keep a" ∷
    l ∷
    "end" ∷
    []

abbrev pub chain_forms : List Row
chain_forms =
    -- "The atom `chain x f`": no condition of `if` or `loop`
    row (cards ("if chain s prev" ∷ "else" ∷ "join" ∷ [])) check (4 ∷ 8 ∷ []) ∷
    row (cards ("loop chain s prev" ∷ "again" ∷ [])) check (4 ∷ 8 ∷ []) ∷
    row (cards ("open t s" ∷ [])) check (4 ∷ 8 ∷ []) ∷
    row (cards ("shut s prev t" ∷ [])) check (4 ∷ 8 ∷ []) ∷
    -- names of no field or variable
    row (cards ("assert chain s next" ∷ [])) check (6 ∷ 8 ∷ []) ∷
    row (cards ("open v s prev" ∷ [])) check (6 ∷ 8 ∷ []) ∷
    row (cards ("shut s next" ∷ [])) check (6 ∷ 8 ∷ []) ∷
    -- "f a field with x's class as its type (else 7)"
    row (cards ("assert chain s n" ∷ [])) check (7 ∷ 8 ∷ []) ∷
    row (cards ("open t s n" ∷ [])) check (7 ∷ 8 ∷ []) ∷
    row (cards ("shut s n" ∷ [])) check (7 ∷ 8 ∷ []) ∷
    row (of_other "assert chain r prev") check (7 ∷ 6 ∷ []) ∷
    row (of_other "shut r prev") check (7 ∷ 6 ∷ []) ∷
    row (with_line 6 "var int t" (cards ("open t s prev" ∷ []))) check (7 ∷ 8 ∷ []) ∷
    -- "Number 9 covers `open`: y may not be `this`, w, `result` or x."
    row (cards ("open s s prev" ∷ [])) check (9 ∷ 8 ∷ []) ∷
    row (of_chain "requires chain this prev" ("open w this prev" ∷ [])) check (9 ∷ 7 ∷ []) ∷
    row (of_chain "requires chain w prev" ("open this w prev" ∷ [])) check (9 ∷ 7 ∷ []) ∷
    row (with_line 3 "method S m S w" (of_chain "requires chain w prev" ("open result w prev" ∷ []))) check (9 ∷ 7 ∷ []) ∷
    -- a chain is no listed path: not for number 10
    row (of_chain "requires chain this prev eq this.prev null" []) check (10 ∷ 4 ∷ []) ∷
    -- both lines are statement lines
    row (shut_both ("open u s prev" ∷ [])) bound (0 ∷ 0 ∷ 7 ∷ 1 ∷ []) ∷
    []

abbrev pub chains_shown : List Row
chains_shown =
    -- "The checker shows it by an unconsumed chain, by the same f, of an equal variable"
    row (shut_both ("assert chain s prev" ∷ [])) check (0 ∷ 0 ∷ []) ∷
    row (shut_both ("let u s" ∷ "assert chain u prev" ∷ [])) check (0 ∷ 0 ∷ []) ∷
    row (shut_both ("assert chain s prev chain s prev" ∷ [])) check (12 ∷ 13 ∷ []) ∷
    row (shut_both ("assert chain s prev chain s prev" ∷ [])) (trial 1000) (24 ∷ 13 ∷ 5 ∷ three 1 2 0) ∷
    row (shut_both ("release chain s prev" ∷ "assert chain s prev" ∷ [])) check (12 ∷ 14 ∷ []) ∷
    row (of_chain "requires chain this prev" ("assert chain w prev" ∷ [])) check (12 ∷ 7 ∷ []) ∷
    -- "else by x ~ null", which takes nothing
    row (cards ("let s null" ∷ "assert chain s prev chain s prev" ∷ [])) (run 1000) (0 ∷ 10 ∷ 3 ∷ three 0 0 0) ∷
    row (cards ("let s null" ∷ "assert acc s prev" ∷ [])) check (12 ∷ 9 ∷ []) ∷
    row (cards ("assert chain s prev" ∷ [])) check (12 ∷ 8 ∷ []) ∷
    row (cards ("assert chain s prev" ∷ [])) (trial 1000) (0 ∷ 9 ∷ 2 ∷ three 0 0 0) ∷
    -- a chain is no listed path: not for resolving, nor for (c) and (d), nor for `acc` and `read`
    row (shut_both ("assert acc s prev" ∷ [])) check (12 ∷ 13 ∷ []) ∷
    row (shut_both ("assert read s prev" ∷ [])) check (12 ∷ 13 ∷ []) ∷
    row (shut_both ("set s prev t" ∷ [])) check (12 ∷ 13 ∷ []) ∷
    row (linked ("assert chain t prev" ∷ [])) check (12 ∷ 11 ∷ []) ∷
    row (of_chain "requires chain this prev acc w prev" ("assert ne this w" ∷ [])) check (13 ∷ 7 ∷ []) ∷
    row (of_chain "requires acc w prev chain this prev" ("assert ne this w" ∷ [])) check (13 ∷ 7 ∷ []) ∷
    row (of_chain "requires read w prev chain this prev" ("assert ne this w" ∷ [])) check (13 ∷ 7 ∷ []) ∷
    row (of_chain "requires chain this prev chain w prev" ("assert ne this w" ∷ [])) check (13 ∷ 7 ∷ []) ∷
    -- nor a term to which another gives way
    row (linked ("let u s.prev" ∷ "shut t prev" ∷ "shut s prev" ∷ "assert eq u t chain s prev" ∷ [])) check (0 ∷ 0 ∷ []) ∷
    -- where x is removed, its chains are those of the variable that takes its place, or go
    row (shut_both ("let u s" ∷ "let s null" ∷ "assert chain u prev" ∷ [])) check (0 ∷ 0 ∷ []) ∷
    row (shut_both ("let s t" ∷ "assert chain s prev" ∷ [])) check (12 ∷ 14 ∷ []) ∷
    []

abbrev pub chain_lines : List Row
chain_lines =
    -- "A recursive walk over a chain must pass the check"
    row grown check (0 ∷ 0 ∷ []) ∷
    row grown (run 100) (0 ∷ 21 ∷ 27 ∷ 4 ∷ 4 ∷ 1 ∷ 3 ∷ 1 ∷ 0 ∷ 0 ∷ 0 ∷ 0 ∷ 0 ∷ 0 ∷ 0 ∷ []) ∷
    -- "`open y x f` takes x ≠ null and `chain x f`; y becomes `x.f`, and the state gets `x.f`, `x.f` = y and the chain of y."
    row (shut_both ("open u s prev" ∷ "assert acc s prev eq s.prev u chain u prev" ∷ [])) (run 1000) (0 ∷ 15 ∷ 8 ∷ three 1 2 2) ∷
    row (shut_both ("open u s prev" ∷ "assert chain s prev" ∷ [])) check (12 ∷ 14 ∷ []) ∷
    row (shut_both ("open u s prev" ∷ "assert chain s prev" ∷ [])) (trial 1000) (0 ∷ 15 ∷ 8 ∷ three 1 2 2) ∷
    row (shut_both ("open u s prev" ∷ "open u s prev" ∷ [])) check (12 ∷ 14 ∷ []) ∷
    row (of_chain "requires chain w prev" ("open t w prev" ∷ [])) check (13 ∷ 7 ∷ []) ∷
    row (cards ("let s null" ∷ "open t s prev" ∷ [])) (trial 1000) (25 ∷ 9 ∷ 1 ∷ three 0 0 0) ∷
    row (linked ("open u s prev" ∷ [])) check (12 ∷ 11 ∷ []) ∷
    -- y is removed
    row (shut_both ("open t s prev" ∷ "assert eq s.prev t chain t prev" ∷ [])) check (0 ∷ 0 ∷ []) ∷
    -- "`shut x f` takes a chain of the value of `x.f`, shown by a chain, by the same f, of a variable ~ to `x.f` or else by `x.f` ~ null,
    -- then the whole permission to `x.f`, and gives the chain of x."
    row (shut_both ("assert chain s prev chain t prev" ∷ [])) (trial 1000) (24 ∷ 13 ∷ 5 ∷ three 1 2 0) ∷
    row (linked ("shut s prev" ∷ [])) check (12 ∷ 11 ∷ []) ∷
    row (linked ("shut s prev" ∷ [])) (trial 1000) (0 ∷ 12 ∷ 5 ∷ three 1 2 0) ∷
    row (linked ("shut t prev" ∷ "release read s prev" ∷ "shut s prev" ∷ [])) check (12 ∷ 13 ∷ []) ∷
    row (linked ("shut t prev" ∷ "release read s prev" ∷ "shut s prev" ∷ [])) (trial 1000) (24 ∷ 13 ∷ 5 ∷ three 1 2 0) ∷
    row (cards ("new s S" ∷ "shut s prev" ∷ "open t s prev" ∷ "let u null" ∷ "set s prev u" ∷ "shut s prev" ∷ [])) check (0 ∷ 0 ∷ []) ∷
    -- "A chain counts as one of the 64 permissions."
    row (crowded ("shut s prev" ∷ [])) check (0 ∷ 0 ∷ []) ∷
    row (crowded ("shut s prev" ∷ "open t s prev" ∷ [])) check (14 ∷ 40 ∷ []) ∷
    row (crowded ("new t S" ∷ [])) check (14 ∷ 39 ∷ []) ∷
    -- "What these lines fail to show is 12, an unlisted `x.f` too"
    row (cards ("shut s prev" ∷ [])) check (12 ∷ 8 ∷ []) ∷
    row (cards ("shut s prev" ∷ [])) (trial 1000) (25 ∷ 8 ∷ 0 ∷ three 0 0 0) ∷
    []

abbrev pub chain_walks : List Row
chain_walks =
    -- "The walk stops with 26 at a location that it has passed itself (a ring)"
    row (ring ("open u s prev" ∷ [])) (trial 1000) (26 ∷ 12 ∷ 4 ∷ three 1 2 0) ∷
    row (ring ("shut s prev" ∷ [])) (trial 1000) (26 ∷ 12 ∷ 4 ∷ three 1 2 0) ∷
    row (cards ("new s S" ∷ "set s prev s" ∷ "assert chain s prev" ∷ [])) (trial 1000) (26 ∷ 10 ∷ 2 ∷ three 1 0 0) ∷
    -- "and with 24 at one not held whole or taken by an earlier atom"
    row (ring ("release read t prev" ∷ "assert chain s prev" ∷ [])) (trial 1000) (24 ∷ 13 ∷ 5 ∷ three 1 2 0) ∷
    row (linked ("assert acc t prev chain s prev" ∷ [])) (trial 1000) (24 ∷ 11 ∷ 3 ∷ three 1 2 0) ∷
    row (linked ("assert chain s prev acc t prev" ∷ [])) (trial 1000) (24 ∷ 11 ∷ 3 ∷ three 1 2 0) ∷
    row (linked ("assert read t prev chain s prev" ∷ [])) (trial 1000) (24 ∷ 11 ∷ 3 ∷ three 1 2 0) ∷
    row (ring ("assert acc t prev chain s prev" ∷ [])) (trial 1000) (24 ∷ 12 ∷ 4 ∷ three 1 2 0) ∷
    row (linked ("assert chain s prev acc s n acc t n chain u prev" ∷ [])) (trial 1000) (0 ∷ 12 ∷ 5 ∷ three 1 2 0) ∷
    -- reading goes over the whole A, what a walk took included
    row (linked ("assert chain s prev eq s.prev t" ∷ [])) (trial 1000) (0 ∷ 12 ∷ 5 ∷ three 1 2 0) ∷
    -- "its footprint is those": the caller loses them, and `release` does
    row (linked ("release chain s prev" ∷ "let u t.prev" ∷ [])) (trial 1000) (24 ∷ 12 ∷ 4 ∷ three 1 2 0) ∷
    row (handed "assert chain s prev") check (12 ∷ 15 ∷ []) ∷
    row (handed "assert chain s prev") (trial 1000) (24 ∷ 15 ∷ 5 ∷ three 1 0 0) ∷
    row (with_line 5 "ensures chain this prev" (handed "assert chain s prev")) (run 1000) (0 ∷ 16 ∷ 7 ∷ three 1 0 0) ∷
    []

abbrev pub chain_rows : List Row
chain_rows = chain_forms ++ (chains_shown ++ (chain_lines ++ chain_walks))

pub chains-right : T (all right chain_rows)
unfolding computing ExampleRows.opened ExampleTexts.opened grown of_other crowded handed
chains-right = tt
