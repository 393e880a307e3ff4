-- Examples of what the checker knows and of its rules: ways of showing an inequality, the order in which dropped terms give way, full
-- states, and the rule of each statement (numbers 11 to 14).
use mathlib.Core.List.{List, [], ◌∷◌, ◌++◌}
use Prim.Native.Nat.{ℕ, zero, suc}
use Prim.Native.String.{String}
use lib.Dec.{T}
use Rattle.rules.specs.Base.{all}
use Rattle.rules.specs.Calls.{computing}
use Rattle.rules.proofs.ExampleRows as ExampleRows
use Rattle.rules.proofs.ExampleRows.{Row, right, check, row, times, script, numbers}

-- a method with this requires and then this line, the 7th
pub given : String → String → List String
given r l =
    "class S" ∷
    "field S prev" ∷
    "field int n" ∷
    "method int m S w" ∷
    r ∷
    "ensures" ∷
    l ∷
    "end" ∷
    "main" ∷
    "end" ∷
    []

-- Calls that list eight inequalities, and one. The method m starts with 5 facts; after line 27 it has 61, and then so many more before
-- these lines.
pub filled : ℕ → List String → List String
filled n ls =
    "class S" ∷
    "field S p" ∷
    "field int n" ∷
    "field int q" ∷
    "method int eight int w" ∷
    "requires" ∷
    "ensures ne 1 2 ne 1 2 ne 1 2 ne 1 2 ne 1 2 ne 1 2 ne 1 2 ne 1 2" ∷
    "end" ∷
    "method int one int w" ∷
    "requires" ∷
    "ensures ne 1 2" ∷
    "end" ∷
    "method int m int w" ∷
    "requires acc this p acc this n acc this q ne this null eq this.p null eq this.n 0 ne 1 2 ne 1 2" ∷
    "ensures" ∷
    "var int a" ∷
    "var int b" ∷
    "var S t" ∷
    "var int x" ∷
    "var int y" ∷
    (times 7 "call x this eight y" ++ (times n "call x this one y" ++ (ls ++ ("end" ∷ "main" ∷ "end" ∷ []))))

-- the ends of so many branches
pub closed : ℕ → List String
closed zero = []
closed (suc n) = "else" ∷ "join" ∷ closed n

-- eight permissions without a fact from each call, the last by the 33rd line, and then one more
pub many_permissions : List String
many_permissions =
    "class S" ∷
    "field int a" ∷
    "field int b" ∷
    "field int c" ∷
    "field int d" ∷
    "field int e" ∷
    "field int f" ∷
    "field int g" ∷
    "field int h" ∷
    "class R" ∷
    "field int a" ∷
    "class Q" ∷
    "method S made int w" ∷
    "requires" ∷
    "ensures acc result a acc result b acc result c acc result d acc result e acc result f acc result g acc result h" ∷
    "var S s" ∷
    "new s S" ∷
    "return s" ∷
    "end" ∷
    "main" ∷
    "var S i" ∷
    "var S j" ∷
    "var S k" ∷
    "var S l" ∷
    "var S m" ∷
    "var S n" ∷
    "var S o" ∷
    "var S p" ∷
    "var Q q" ∷
    "var R r" ∷
    "var int w" ∷
    "new q Q" ∷
    "call i q made w" ∷
    "call j q made w" ∷
    "call k q made w" ∷
    "call l q made w" ∷
    "call m q made w" ∷
    "call n q made w" ∷
    "call o q made w" ∷
    "call p q made w" ∷
    "new r R" ∷
    "end" ∷
    []

-- a method that gives its argument back and asks for `this.n`; these lines of main begin with the 12th
pub calling : List String → List String
calling ls =
    "class S" ∷
    "field int n" ∷
    "method int same int w" ∷
    "requires acc this n" ∷
    "ensures acc this n eq result w" ∷
    "return w" ∷
    "end" ∷
    "main" ∷
    "var S s" ∷
    "var int a" ∷
    "var int b" ∷
    (ls ++ ("end" ∷ []))

-- two blocks that are refused
pub two_refused : List String
two_refused =
    "class S" ∷
    "field int n" ∷
    "method int m int w" ∷
    "requires" ∷
    "ensures" ∷
    "assert eq 1 2" ∷
    "end" ∷
    "main" ∷
    "var S s" ∷
    "assert acc s n" ∷
    "end" ∷
    []

abbrev pub state_rows : List Row
state_rows =
    -- "(a) a listed inequality links them, either way round": no equality does
    row (numbers ("if ne a b" ∷ "assert ne a b" ∷ "assert ne b a" ∷ "else" ∷ "join" ∷ [])) check (0 ∷ 0 ∷ []) ∷
    row (numbers ("let a b" ∷ "assert ne a b" ∷ [])) check (13 ∷ 6 ∷ []) ∷
    -- "(b) they are ~ to different numbers", one of which may be named here first
    row (numbers ("let a 7" ∷ "let b 8" ∷ "assert ne a b ne a 8 ne 9 a" ∷ [])) check (0 ∷ 0 ∷ []) ∷
    row (numbers ("let a 7" ∷ "let b 7" ∷ "assert ne a b" ∷ [])) check (13 ∷ 7 ∷ []) ∷
    -- "(c) one is ~ null and the other ~ x with some `x.f` listed"
    row (given "requires acc this n" "assert ne this null ne null this") check (0 ∷ 0 ∷ []) ∷
    row (given "requires acc this n" "assert ne this w") check (13 ∷ 7 ∷ []) ∷
    row (given "requires" "assert ne this null") check (13 ∷ 7 ∷ []) ∷
    -- "(d) they are ~ x and ~ y with `x.f` and `y.f` two entries of the list for one f"
    row (given "requires acc this n acc w n" "assert ne this w ne w this") check (0 ∷ 0 ∷ []) ∷
    row (given "requires acc this prev acc this n acc w n" "assert ne this w ne w this") check (0 ∷ 0 ∷ []) ∷
    -- "A checker's state has at most 64 permissions and 64 facts": the 65th of each
    row many_permissions check (14 ∷ 41 ∷ []) ∷
    row (filled 3 ("if eq 1 1" ∷ closed 1)) check (14 ∷ 31 ∷ []) ∷
    -- "For this each dropped term gives way, in every fact, to the first term left that was ~ to it. The order is variables as in
    -- document 01, listed paths, null, numbers rising.": `this.n` to w and not to a, so that w = w goes
    row (filled 2 ("let a w" ∷ "set this n w" ∷ "release acc this n" ∷ "if eq 1 1" ∷ closed 1)) check (0 ∷ 0 ∷ []) ∷
    -- to a and not to b, so that a = b stays beside b = a
    row (filled 2 ("let b a" ∷ "set this n b" ∷ "release acc this n" ∷ "if eq 1 1" ∷ closed 1)) check (14 ∷ 33 ∷ []) ∷
    -- to a and not to `this.q`, so that a = a goes
    row (filled 2 ("set this n a" ∷ "set this q a" ∷ "release acc this n" ∷ "if eq 1 1" ∷ closed 1)) check (0 ∷ 0 ∷ []) ∷
    -- t to `this.p` and not to null; a to `this.n` and not to 0
    row (filled 2 ("let t null" ∷ "let t this" ∷ [])) check (14 ∷ 31 ∷ []) ∷
    row (filled 2 ("let a 0" ∷ "let a b" ∷ [])) check (14 ∷ 31 ∷ []) ∷
    -- a to −1 and not to 1, so that −1 = −1 goes twice
    row (filled 0 ("if eq a 1" ∷ "if eq a -1" ∷ "if eq a -1" ∷ "let a b" ∷ "if eq 1 1" ∷ closed 4)) check (0 ∷ 0 ∷ []) ∷
    -- "if another variable is ~ x, the first such (order: `this`, w, locals, `result`) takes its place everywhere": b and not `result`
    row (filled 0 ("if eq result a" ∷ "if eq result a" ∷ "let b a" ∷ "let a 1" ∷ "if eq 1 1" ∷ closed 3)) check (14 ∷ 32 ∷ []) ∷
    -- "An equality that now has one term on both sides goes too", "When paths or a variable are dropped": not where nothing is
    row (filled 2 ("if eq a a" ∷ "release" ∷ "if eq 1 1" ∷ closed 2)) check (14 ∷ 32 ∷ []) ∷
    -- "If r is x, no change. Otherwise remove x": also where r is ~ x, so that a = a goes
    row (filled 1 ("let a b" ∷ "if eq a a" ∷ "let a b" ∷ "if eq 1 1" ∷ closed 2)) check (0 ∷ 0 ∷ []) ∷
    []

abbrev pub rule_rows : List Row
rule_rows =
    -- "An equality that now has one term on both sides goes too": no inequality does
    row (numbers ("if ne a b" ∷ "if eq a b" ∷ "let a 1" ∷ "assert ne b b" ∷ "else" ∷ "join" ∷ "else" ∷ "join" ∷ [])) check (0 ∷ 0 ∷ []) ∷
    -- "`let x e`: e resolves to r. If r is x, no change."
    row (numbers ("if ne a b" ∷ "let a a" ∷ "assert ne a b" ∷ "else" ∷ "join" ∷ [])) check (0 ∷ 0 ∷ []) ∷
    -- "`new`: remove x"
    row (script ("new s S" ∷ "let a 7" ∷ "set s n a" ∷ "new s S" ∷ "assert eq s.n 7" ∷ [])) check (13 ∷ 14 ∷ []) ∷
    -- "`call`: show y ≠ null, then requires with y, z for `this`, w."
    row (calling ("call b s same a" ∷ [])) check (13 ∷ 12 ∷ []) ∷
    row (calling ("new s S" ∷ "release acc s n" ∷ "call b s same a" ∷ [])) check (12 ∷ 14 ∷ []) ∷
    -- "Take the remainder, remove x, add ensures with x for `result`."
    row (calling ("new s S" ∷ "let a 7" ∷ "call b s same a" ∷ "assert eq b 7 acc s n" ∷ [])) check (0 ∷ 0 ∷ []) ∷
    row (calling ("new s S" ∷ "let b 1" ∷ "call b s same a" ∷ "assert eq b 1" ∷ [])) check (13 ∷ 15 ∷ []) ∷
    -- "`assert` shows its formula, no more. `release` leaves the remainder."
    row (script ("new s S" ∷ "assert acc s n" ∷ "assert acc s n" ∷ [])) check (0 ∷ 0 ∷ []) ∷
    row (script ("new s S" ∷ "release acc s n" ∷ "assert acc s n" ∷ [])) check (12 ∷ 12 ∷ []) ∷
    -- "the first branch has the condition added, the second its opposite"
    row (numbers ("if eq a b" ∷ "assert eq a b" ∷ "else" ∷ "assert ne a b" ∷ "join" ∷ [])) check (0 ∷ 0 ∷ []) ∷
    row (numbers ("if ne a b" ∷ "assert ne a b" ∷ "else" ∷ "assert eq a b" ∷ "join" ∷ [])) check (0 ∷ 0 ∷ []) ∷
    -- "At `join` the first end, then the second, shows the formula"
    row (script ("new s S" ∷ "if eq a b" ∷ "else" ∷ "release acc s n" ∷ "join acc s n eq s.n 1" ∷ [])) check (13 ∷ 14 ∷ []) ∷
    -- "then the rules below in order of lines"
    row two_refused check (13 ∷ 6 ∷ []) ∷
    []

pub state-right : T (all right state_rows)
unfolding computing ExampleRows.opened given filled closed many_permissions calling two_refused
state-right = tt

pub rules-right : T (all right rule_rows)
unfolding computing ExampleRows.opened given filled closed many_permissions calling two_refused
rules-right = tt
