-- Examples of what a text is: its bytes, fields, names and places, and its limits (numbers 2, 3, 4, 5 and 8).
use mathlib.Core.List.{List, [], ◌∷◌, ◌++◌}
use Prim.Native.Nat.{ℕ, zero, suc}
use Prim.Native.String.{String}
use lib.Dec.{T}
use lib.ListN.{replicate}
use Rattle.rules.specs.Base.{bytes, all}
use Rattle.rules.specs.Text.{line_feed}
use Rattle.rules.specs.Calls.{computing}
use Rattle.rules.proofs.ExampleRows as ExampleRows
use Rattle.rules.proofs.ExampleRows.{Row, right, check, trial, bare, row, three, text, with_line, times, one_line, script}

-- the second line is one byte
pub of_byte : ℕ → List ℕ
of_byte b = text ("main" ∷ []) ++ (b ∷ line_feed ∷ [])

-- a class, by its line
pub declaring : String → List String
declaring l = l ∷ "main" ∷ "end" ∷ []

pub class : List String → List String
class ls = "class A" ∷ ls

pub empty_main : List String
empty_main = "main" ∷ "end" ∷ []

-- so many methods, all of one name
pub methods : ℕ → List String
methods zero = []
methods (suc n) = "method int m int w" ∷ "requires" ∷ "ensures" ∷ "end" ∷ methods n

-- an `if` in main, with these lines after it
pub branch : List String → List String
branch ls = "main" ∷ "if eq 1 1" ∷ (ls ++ ("end" ∷ []))

abbrev pub text_rows : List Row
text_rows =
    -- "text 32,768 bytes"; "text too long": a longer one is not looked at
    bare (replicate 32768 line_feed) check (4 ∷ 1 ∷ []) ∷
    bare (replicate 32769 line_feed) check (2 ∷ 0 ∷ []) ∷
    -- "byte other than tab, LF, 33 to 126": a blank and byte 127 are such bytes; `!` and `~` are not, but they are no words
    bare (of_byte 32) check (3 ∷ 2 ∷ []) ∷
    bare (of_byte 33) check (4 ∷ 2 ∷ []) ∷
    bare (of_byte 126) check (4 ∷ 2 ∷ []) ∷
    bare (of_byte 127) check (3 ∷ 2 ∷ []) ∷
    -- "or last line without LF"
    bare (text ("main" ∷ []) ++ bytes "end") check (3 ∷ 2 ∷ []) ∷
    -- "A name is a letter and up to 11 more letters or digits (ASCII)"
    row (declaring "class AZaz09") check (0 ∷ 0 ∷ []) ∷
    row (declaring "class abcdefghijkl") check (0 ∷ 0 ∷ []) ∷
    row (declaring "class abcdefghijklm") check (4 ∷ 1 ∷ []) ∷
    row (declaring "class A_z") check (4 ∷ 1 ∷ []) ∷
    row (declaring "class 1A") check (4 ∷ 1 ∷ []) ∷
    -- "Fields are parted by one tab": an empty field is one too many, and so is another word
    row (with_line 2 "end " (declaring "class A")) check (4 ∷ 2 ∷ []) ∷
    row (with_line 3 "end end" (declaring "class A")) check (4 ∷ 3 ∷ []) ∷
    -- "An expression e is a number, `null`, a variable x, or a path `x.f`."; "paths longer than one field stay out"
    row (script ("assert eq s.prev.n 0" ∷ [])) check (4 ∷ 10 ∷ []) ∷
    -- "An atom is three fields: `acc x f`, `eq e e` or `ne e e`."
    row (one_line "assert eq a") check (4 ∷ 3 ∷ []) ∷
    row (script ("assert acc s 1" ∷ [])) check (4 ∷ 10 ∷ []) ∷
    -- "A formula is 0 to 8 atoms on the same line"; "a ninth is number 4"
    row (one_line "assert eq a a eq a a eq a a eq a a eq a a eq a a eq a a eq a a") check (0 ∷ 0 ∷ []) ∷
    row (one_line "assert eq a a eq a a eq a a eq a a eq a a eq a a eq a a eq a a eq a a") check (4 ∷ 3 ∷ []) ∷
    -- "`set x f y`": y is a variable
    row (script ("new s S" ∷ "set s n 5" ∷ [])) check (4 ∷ 11 ∷ []) ∷
    -- "`class C`, then `field T f` lines, then methods."
    row (class (methods 1 ++ ("field int f" ∷ empty_main))) check (4 ∷ 6 ∷ []) ∷
    row (methods 1 ++ empty_main) check (4 ∷ 1 ∷ []) ∷
    -- "`method T m T w`, `requires` formula, `ensures` formula, `var T x` lines, statements, `end`."
    row (class ("method int m int w" ∷ "ensures" ∷ "end" ∷ empty_main)) check (4 ∷ 3 ∷ []) ∷
    -- "Last `main`, `var` lines, statements, `end`. Nothing follows."
    row ("main" ∷ "assert" ∷ "var int a" ∷ "end" ∷ []) check (4 ∷ 3 ∷ []) ∷
    row (empty_main ++ ("class A" ∷ [])) check (4 ∷ 3 ∷ []) ∷
    -- "`return x` (methods only)"
    row (one_line "return a") check (4 ∷ 3 ∷ []) ∷
    -- "`if ne e e` .. `else` .. `join` formula": an `else`, and one alone; trial says so too, where no rule is asked
    row (branch ("join" ∷ [])) (trial 9) (4 ∷ 3 ∷ 0 ∷ three 0 0 0) ∷
    row (branch ("else" ∷ "else" ∷ "join" ∷ [])) (trial 9) (4 ∷ 4 ∷ 0 ∷ three 0 0 0) ∷
    -- "`again` closes it", and no branch
    row (branch ("again" ∷ "else" ∷ "join" ∷ [])) check (4 ∷ 3 ∷ []) ∷
    -- "16 classes": names are looked at later
    row (times 16 "class A" ++ empty_main) check (6 ∷ 2 ∷ []) ∷
    row (times 17 "class A" ++ empty_main) check (5 ∷ 17 ∷ []) ∷
    -- "8 fields a class"
    row (class (times 8 "field int f" ++ ("class B" ∷ "field int f" ∷ empty_main))) check (6 ∷ 3 ∷ []) ∷
    row (class (times 9 "field int f" ++ empty_main)) check (5 ∷ 10 ∷ []) ∷
    -- "64 methods", of all classes together
    row (class (methods 64 ++ empty_main)) check (6 ∷ 6 ∷ []) ∷
    row (class (methods 64 ++ ("class B" ∷ (methods 1 ++ empty_main)))) check (5 ∷ 259 ∷ []) ∷
    -- "12 locals a block"
    row (class ("method int m int w" ∷ "requires" ∷ "ensures" ∷ (times 12 "var int a" ++ ("end" ∷ "main" ∷ "var int a" ∷ "end" ∷ [])))) check
    (6 ∷ 6 ∷ []) ∷
    row ("main" ∷ (times 13 "var int a" ++ ("end" ∷ []))) check (5 ∷ 14 ∷ []) ∷
    -- "then line by line 3, 4, 5": a ninth field that is out of place
    row (class (times 8 "field int f" ++ (methods 1 ++ ("field int f" ∷ empty_main)))) check (4 ∷ 14 ∷ []) ∷
    -- "then 8; then line by line 6, 7, 9": at the "count of lines"
    row ("main" ∷ "var A a" ∷ []) check (8 ∷ 2 ∷ []) ∷
    []

pub text-right : T (all right text_rows)
unfolding computing ExampleRows.opened of_byte declaring class empty_main methods branch
text-right = tt
