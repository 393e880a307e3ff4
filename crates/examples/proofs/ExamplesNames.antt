-- Examples of what names may stand for: names, types, targets and framing (numbers 6, 7, 9 and 10).
use mathlib.Core.List.{List, [], ◌∷◌}
use Prim.Native.Nat.{ℕ}
use Prim.Native.String.{String}
use lib.Dec.{T}
use Rattle.rules.specs.Base.{all}
use Rattle.rules.specs.Calls.{computing}
use Rattle.rules.proofs.ExampleRows as ExampleRows
use Rattle.rules.proofs.ExampleRows.{Row, right, check, row, with_line}

-- two classes with names in common, S with methods of the types int and S; main's only statement is this, the 28th line
pub cards : String → List String
cards l =
    "class S" ∷
    "field S prev" ∷
    "field int n" ∷
    "method int m int w" ∷
    "requires" ∷
    "ensures" ∷
    "assert" ∷
    "end" ∷
    "method S me T w" ∷
    "requires acc w k" ∷
    "ensures" ∷
    "var S o" ∷
    "assert" ∷
    "return this" ∷
    "end" ∷
    "class T" ∷
    "field int k" ∷
    "field int n" ∷
    "method int m int w" ∷
    "requires" ∷
    "ensures" ∷
    "end" ∷
    "main" ∷
    "var S s" ∷
    "var T t" ∷
    "var int a" ∷
    "var int b" ∷
    l ∷
    "end" ∷
    []

-- with one line written so
pub cards_with : ℕ → String → List String
cards_with n l = with_line n l (cards "assert")

-- a method with twelve locals; the last is assigned where `result` is known
pub twelve_locals : List String
twelve_locals =
    "class S" ∷
    "method int m int w" ∷
    "requires" ∷
    "ensures" ∷
    "var int a" ∷
    "var int b" ∷
    "var int c" ∷
    "var int d" ∷
    "var int e" ∷
    "var int f" ∷
    "var int g" ∷
    "var int h" ∷
    "var int i" ∷
    "var int j" ∷
    "var int k" ∷
    "var int l" ∷
    "if eq result w" ∷
    "let l 5" ∷
    "assert eq result w" ∷
    "else" ∷
    "join" ∷
    "end" ∷
    "main" ∷
    "end" ∷
    []

abbrev pub name_rows : List Row
name_rows =
    row (cards "assert") check (0 ∷ 0 ∷ []) ∷
    -- "`int`, `null`, `this`, `result` are reserved"
    row (cards_with 27 "var int int") check (6 ∷ 27 ∷ []) ∷
    row (cards_with 27 "var int null") check (6 ∷ 27 ∷ []) ∷
    row (cards_with 27 "var int this") check (6 ∷ 27 ∷ []) ∷
    row (cards_with 27 "var int result") check (6 ∷ 27 ∷ []) ∷
    row (cards "assert eq a.null 0") check (6 ∷ 28 ∷ []) ∷
    -- "T is `int` or a class name, earlier or later."
    row (cards_with 25 "var U t") check (6 ∷ 25 ∷ []) ∷
    row (cards "new a int") check (6 ∷ 28 ∷ []) ∷
    -- "`requires` names only `this` and w; `ensures` also `result`; main has none of these."
    row (cards_with 10 "requires eq result this") check (6 ∷ 10 ∷ []) ∷
    row (cards_with 11 "ensures eq result this") check (0 ∷ 0 ∷ []) ∷
    row (cards "assert eq this this") check (6 ∷ 28 ∷ []) ∷
    row (cards "assert eq w w") check (6 ∷ 28 ∷ []) ∷
    row (cards "assert eq result result") check (6 ∷ 28 ∷ []) ∷
    -- "Field names differ within a class, method names too; class names differ; the names of a block's parameter and locals differ."
    row (cards_with 3 "field int prev") check (6 ∷ 3 ∷ []) ∷
    row (cards_with 9 "method S m T w") check (6 ∷ 9 ∷ []) ∷
    row (cards_with 27 "var S a") check (6 ∷ 27 ∷ []) ∷
    row (cards_with 12 "var S w") check (6 ∷ 12 ∷ []) ∷
    -- "Both sides of `eq` or `ne` are int, or are null or of one class"
    row (cards "assert eq null null") check (0 ∷ 0 ∷ []) ∷
    row (cards "assert eq a null") check (7 ∷ 28 ∷ []) ∷
    row (cards "assert ne null a") check (7 ∷ 28 ∷ []) ∷
    row (cards "assert eq s t") check (7 ∷ 28 ∷ []) ∷
    row (cards "assert eq a s") check (7 ∷ 28 ∷ []) ∷
    -- "so are the two sides of `let`, `set`, an argument and a result (of `call` and of `return`)"
    row (cards "let a null") check (7 ∷ 28 ∷ []) ∷
    row (cards "let s t") check (7 ∷ 28 ∷ []) ∷
    row (cards "set s n t") check (7 ∷ 28 ∷ []) ∷
    row (cards "call a s m t") check (7 ∷ 28 ∷ []) ∷
    row (cards "call t s m a") check (7 ∷ 28 ∷ []) ∷
    row (cards_with 14 "return w") check (7 ∷ 14 ∷ []) ∷
    -- "the x of `new` is of class C, else 7"
    row (cards "new s T") check (7 ∷ 28 ∷ []) ∷
    -- "the int x the sum or difference of the int variables y and z"
    row (cards "add a s b") check (7 ∷ 28 ∷ []) ∷
    row (cards "sub a b s") check (7 ∷ 28 ∷ []) ∷
    -- "A field is looked up in x's class, a method in y's: absent there is 6, an int x or y is 7."
    row (cards "assert eq s.k 0") check (6 ∷ 28 ∷ []) ∷
    row (cards "call s t me t") check (6 ∷ 28 ∷ []) ∷
    row (cards "assert eq a.n 0") check (7 ∷ 28 ∷ []) ∷
    row (cards "assert eq a.n a.n") check (7 ∷ 28 ∷ []) ∷
    row (cards "assert acc a n") check (7 ∷ 28 ∷ []) ∷
    row (cards "call s a me t") check (7 ∷ 28 ∷ []) ∷
    -- "`this`, w or `result` assigned by `let`, `new` or `call`; or `call x` with x the same name as y or z"
    row (cards_with 13 "let result this") check (9 ∷ 13 ∷ []) ∷
    row (cards_with 13 "let w w") check (9 ∷ 13 ∷ []) ∷
    row (cards_with 13 "new this S") check (9 ∷ 13 ∷ []) ∷
    row (cards_with 13 "call this o me w") check (9 ∷ 13 ∷ []) ∷
    row (cards "call s s me t") check (9 ∷ 28 ∷ []) ∷
    -- "Number 9 covers these lines too: x may not be w or `result`."
    row (cards_with 7 "sub w w w") check (9 ∷ 7 ∷ []) ∷
    row (cards_with 7 "add result w w") check (9 ∷ 7 ∷ []) ∷
    -- "6, 7, 9 (for two on one line the lower)": `this` assigned, and of the wrong type
    row (cards_with 13 "let this 5") check (7 ∷ 13 ∷ []) ∷
    -- "requires, ensures or join reads `x.f` with no `acc x f` before it in the line"
    row (cards_with 10 "requires eq w.k 0 acc w k") check (10 ∷ 10 ∷ []) ∷
    row (cards_with 10 "requires ne 0 w.k acc w k") check (10 ∷ 10 ∷ []) ∷
    row (cards_with 10 "requires acc this n eq w.n 0") check (10 ∷ 10 ∷ []) ∷
    row (cards_with 10 "requires acc w k eq w.n 0") check (10 ∷ 10 ∷ []) ∷
    -- "12 locals a block", and `result` beside them
    row twelve_locals check (0 ∷ 0 ∷ []) ∷
    []

pub names-right : T (all right name_rows)
unfolding computing ExampleRows.opened cards cards_with twelve_locals
names-right = tt
