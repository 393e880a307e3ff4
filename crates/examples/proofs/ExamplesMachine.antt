-- Examples of the machine: what a formula tests and in which order, what stops a run, the heap's limits, branches and loops.
use mathlib.Core.List.{List, [], ◌∷◌, ◌++◌}
use Prim.Native.String.{String}
use lib.Dec.{T}
use Rattle.rules.specs.Base.{all}
use Rattle.rules.specs.Calls.{computing}
use Rattle.rules.proofs.ExampleRows as ExampleRows
use Rattle.rules.proofs.ExampleRows.{Row, right, run, trial, row, three, script, numbers}

-- a method that asks for nothing, called on a null
pub null_receiver : List String
null_receiver =
    "class A" ∷
    "method int m int w" ∷
    "requires" ∷
    "ensures" ∷
    "end" ∷
    "main" ∷
    "var A s" ∷
    "var int a" ∷
    "var int b" ∷
    "call b s m a" ∷
    "end" ∷
    []

-- a method with one line, the 6th, that asks for `this.n` and hands back nothing; main's lines begin with the 12th
pub handing : String → List String → List String
handing l ls =
    "class S" ∷
    "field int n" ∷
    "method int m int w" ∷
    "requires acc this n" ∷
    "ensures" ∷
    l ∷
    "end" ∷
    "main" ∷
    "var S s" ∷
    "var int a" ∷
    "var int b" ∷
    (ls ++ ("end" ∷ []))

-- an object of the class A a round, as long as this condition holds, then one of the class B; A has these fields and B has one
pub making : List String → String → List String
making fs l =
    "class B" ∷
    "field int f" ∷
    "class A" ∷
    (fs
    ++ ("main" ∷
    "var A s" ∷
    "var int a" ∷
    "var int i" ∷
    "var B t" ∷
    "let i 1" ∷
    l ∷
    "new s A" ∷
    "add a a i" ∷
    "again" ∷
    "new t B" ∷
    "end" ∷
    []))

pub eight_fields : List String
eight_fields =
    "field int f" ∷
    "field int g" ∷
    "field int h" ∷
    "field int i" ∷
    "field int j" ∷
    "field int k" ∷
    "field int l" ∷
    "field int m" ∷
    []

abbrev pub machine_rows : List Row
machine_rows =
    -- "`acc` of a null is 25, of a location not in A or already taken in this formula 24; reading likewise"
    row (script ("assert acc s n" ∷ [])) (trial 9) (25 ∷ 10 ∷ 0 ∷ three 0 0 0) ∷
    row (script ("new s S" ∷ "assert acc s n acc s n" ∷ [])) (trial 9) (24 ∷ 11 ∷ 1 ∷ three 1 0 0) ∷
    row (script ("assert eq s.n 0" ∷ [])) (trial 9) (25 ∷ 10 ∷ 0 ∷ three 0 0 0) ∷
    row (script ("set s n a" ∷ [])) (trial 9) (25 ∷ 10 ∷ 0 ∷ three 0 0 0) ∷
    -- "of two sides the left first": one is a location not in A, the other a null
    row (script ("new t S" ∷ "release acc t n" ∷ "assert eq t.n s.n" ∷ [])) (trial 9) (24 ∷ 12 ∷ 2 ∷ three 0 1 0) ∷
    row (script ("new t S" ∷ "release acc t n" ∷ "assert eq s.n t.n" ∷ [])) (trial 9) (25 ∷ 12 ∷ 2 ∷ three 0 1 0) ∷
    row (script ("new t S" ∷ "release acc t n" ∷ "if eq t.n s.n" ∷ "else" ∷ "join" ∷ [])) (trial 9) (24 ∷ 12 ∷ 2 ∷ three 0 1 0) ∷
    -- "`release` leaves the remainder": the frame loses what it takes
    row (script ("new s S" ∷ "release acc s n" ∷ "let a s.n" ∷ [])) (trial 9) (24 ∷ 12 ∷ 2 ∷ three 1 0 0) ∷
    -- "`set` first tests `acc x f`."
    row (script ("new s S" ∷ "let a 5" ∷ "set s n a" ∷ "let b s.n" ∷ [])) (trial 9) (0 ∷ 14 ∷ 5 ∷ 1 ∷ 0 ∷ 5 ∷ 5 ∷ 0 ∷ 0 ∷ 0 ∷ 0 ∷ 0 ∷ 0 ∷ 0 ∷ 0 ∷ []) ∷
    -- "`call`: null receiver, then requires"
    row null_receiver (trial 9) (25 ∷ 10 ∷ 0 ∷ three 0 0 0) ∷
    -- "the new frame's A is the footprint of requires, which the caller loses"; "the rest of that A is lost"
    row (handing "set this n w" ("new s S" ∷ "call b s m a" ∷ "let a s.n" ∷ [])) (trial 9) (24 ∷ 14 ∷ 4 ∷ three 1 0 0) ∷
    -- "a false `if` goes to the line after its `else`", and not to one of a branch inside; "also `else` (on to its `join`)"
    row (numbers ("if eq a 1" ∷ "if eq a 2" ∷ "else" ∷ "join" ∷ "let b 1" ∷ "else" ∷ "let b 2" ∷ "join" ∷ [])) (run 99)
    (0 ∷ 13 ∷ 4 ∷ three 0 2 0) ∷
    row (numbers ("if eq a 0" ∷ "let b 1" ∷ "else" ∷ "let b 2" ∷ "join eq a 1" ∷ [])) (trial 99) (26 ∷ 9 ∷ 3 ∷ three 0 1 0) ∷
    -- "Each arrival at `loop` is a step that tests the invariant, then the condition"
    row (script ("loop eq s.n 1 eq a 1" ∷ "again" ∷ [])) (trial 9) (26 ∷ 10 ∷ 0 ∷ three 0 0 0) ∷
    -- "Objects are numbered as made"; "A reference is the object's number from 1, null is 0."
    row (script ("new s S" ∷ "new t S" ∷ "new t S" ∷ [])) (run 9) (0 ∷ 13 ∷ 4 ∷ three 1 3 0) ∷
    -- "22 only where `new` would pass 256 objects or 1,024 fields": the 257th object, the 1,025th field
    row (making [] "loop ne a 256") (trial 2000) (22 ∷ 14 ∷ 1026 ∷ three 256 256 1) ∷
    row (making eight_fields "loop ne a 128") (trial 2000) (22 ∷ 22 ∷ 514 ∷ three 128 128 1) ∷
    []

pub machine-right : T (all right machine_rows)
unfolding computing ExampleRows.opened null_receiver handing making eight_fields
machine-right = tt
