-- Examples of a requires line to be filled in (W11): the sets in order, whose fields they are over, and what comes first.
use mathlib.Core.List.{List, [], ◌∷◌, ◌++◌}
use Prim.Native.String.{String}
use lib.Dec.{T}
use lib.ListN.{replicate}
use Rattle.rules.specs.Base.{all}
use Rattle.rules.specs.Text.{line_feed}
use Rattle.rules.specs.Calls.{computing}
use Rattle.rules.proofs.ExampleRows as ExampleRows
use Rattle.rules.proofs.ExampleRows.{Row, right, fill, bare, row, times}
use Rattle.rules.proofs.ExampleTexts as ExampleTexts
use Rattle.rules.proofs.ExampleTexts.{unframed}

-- the second class has the method, and w is of the first
pub of_two_classes : List String
of_two_classes =
    "class T" ∷
    "field int h" ∷
    "class S" ∷
    "field int n" ∷
    "field int k" ∷
    "method int m T w" ∷
    "requires *" ∷
    "ensures" ∷
    "var int a" ∷
    "let a w.h" ∷
    "end" ∷
    "main" ∷
    "end" ∷
    []

-- one card for `this` and w, which both must not be null
pub one_card : List String
one_card =
    "class S" ∷
    "field S prev" ∷
    "field int n" ∷
    "method int m S w" ∷
    "requires *" ∷
    "ensures" ∷
    "assert ne this null ne w null" ∷
    "end" ∷
    "main" ∷
    "var S s" ∷
    "var int b" ∷
    "new s S" ∷
    "call b s m s" ∷
    "end" ∷
    []

-- a class with one field and a method with this ensures, this line and an int w; main has these lines
pub of_one_field : String → String → List String → List String
of_one_field ensures l ls =
    "class abcdefgh" ∷
    "field int n" ∷
    "method int m int w" ∷
    "requires *" ∷
    ensures ∷
    l ∷
    "end" ∷
    "main" ∷
    "var int abcdefghijkl" ∷
    (ls ++ ("end" ∷ []))

-- 239 bytes
pub long : String
long = "assert eq abcdefghijkl abcdefghijkl eq abcdefghijkl abcdefghijkl eq abcdefghijkl abcdefghijkl eq abcdefghijkl abcdefghijkl eq abcdefghijkl abcdefghijkl eq abcdefghijkl abcdefghijkl eq abcdefghijkl abcdefghijkl eq abcdefghijkl abcdefghijkl"

-- 152 bytes
pub last : String
last = "assert eq abcdefghijkl abcdefghijkl eq abcdefghijkl abcdefghijkl eq abcdefghijkl abcdefghijkl eq abcdefghijkl abcdefghijkl eq abcdefghijkl abcdefghijkl"

-- a method with a star
pub starred : String → List String
starred head = head ∷ "requires *" ∷ "ensures" ∷ "end" ∷ []

pub three_stars : List String
three_stars =
    "class S" ∷ (starred "method int m int w" ++ (starred "method int n int w" ++ (starred "method int o int w" ++ ("main" ∷ "end" ∷ []))))

abbrev pub fill_rows : List Row
fill_rows =
    -- "over the fields of `this` and then of w": of their classes, in the text's order
    row of_two_classes fill (0 ∷ 0 ∷ 3 ∷ 0 ∷ 0 ∷ 0 ∷ []) ∷
    -- "then the earlier place where two sets first differ": 1 and 4 come before 2 and 3
    row one_card fill (0 ∷ 0 ∷ 1 ∷ 4 ∷ 0 ∷ 0 ∷ []) ∷
    -- "with which the whole text, its length apart, is accepted": by number 10 too, and a loop, which has no bound, may be
    row (of_one_field "ensures eq this.n this.n acc this n" "assert" []) fill (17 ∷ 4 ∷ 0 ∷ 0 ∷ 0 ∷ 0 ∷ []) ∷
    row (of_one_field "ensures" "assert" ("loop ne 1 1" ∷ "again" ∷ [])) fill (0 ∷ 0 ∷ 0 ∷ 0 ∷ 0 ∷ 0 ∷ []) ∷
    -- the text that is given has 32,768 bytes, and with the set it has more
    row (of_one_field "ensures" "set this n w" (times 136 long ++ (last ∷ []))) fill (0 ∷ 0 ∷ 1 ∷ 0 ∷ 0 ∷ 0 ∷ []) ∷
    bare (replicate 32769 line_feed) fill (2 ∷ 0 ∷ 0 ∷ 0 ∷ 0 ∷ 0 ∷ []) ∷
    -- "with 18 at the second star, or at line 0 where there is none; both come after 9", and not after 10
    row three_stars fill (18 ∷ 7 ∷ 0 ∷ 0 ∷ 0 ∷ 0 ∷ []) ∷
    row unframed fill (18 ∷ 0 ∷ 0 ∷ 0 ∷ 0 ∷ 0 ∷ []) ∷
    []

pub fill-right : T (all right fill_rows)
unfolding computing ExampleRows.opened ExampleTexts.opened of_two_classes one_card of_one_field long last starred three_stars
fill-right = tt
