-- The texts of the examples of both documents, and those against readings that are tempting and wrong.
use mathlib.Core.List.{List, [], ◌∷◌, ◌++◌}
use Prim.Native.Nat.{ℕ}
use Prim.Native.String.{String}
use Rattle.rules.proofs.ExampleRows.{with_line, times, script, numbers, method}

abbrev pub worked : List String
worked =
    "class S" ∷
    "field S prev" ∷
    "field int n" ∷
    "method int tag int k" ∷
    "requires acc this n" ∷
    "ensures acc this n eq this.n k" ∷
    "set this n k" ∷
    "return k" ∷
    "end" ∷
    "main" ∷
    "var S s" ∷
    "var int a" ∷
    "var int b" ∷
    "new s S" ∷
    "let a 7" ∷
    "call b s tag a" ∷
    "assert eq s.n 7" ∷
    "assert eq s.prev null" ∷
    "end" ∷
    []

-- `let t s` keeps `t.n`
unfoldable pub alias : List String
alias =
    "class S" ∷ "field int n" ∷ "main" ∷ "var S s" ∷ "var S t" ∷ "new s S" ∷ "let t s" ∷ "assert eq t.n 0" ∷ "end" ∷ []

-- the call may have set s.n
unfoldable pub across_call : List String
across_call =
    "class S" ∷
    "field int n" ∷
    "method int tag int k" ∷
    "requires acc this n" ∷
    "ensures acc this n" ∷
    "set this n k" ∷
    "end" ∷
    "main" ∷
    "var S s" ∷
    "var int a" ∷
    "var int b" ∷
    "new s S" ∷
    "let a 7" ∷
    "call b s tag a" ∷
    "assert eq s.n 0" ∷
    "end" ∷
    []

-- one location for two `acc`
unfoldable pub twice : List String
twice =
    "class S" ∷
    "field int n" ∷
    "method int two S w" ∷
    "requires acc this n acc w n" ∷
    "ensures" ∷
    "end" ∷
    "main" ∷
    "var S s" ∷
    "var int b" ∷
    "new s S" ∷
    "call b s two s" ∷
    "end" ∷
    []

-- b is what a was
unfoldable pub old_value : List String
old_value =
    "main" ∷ "var int a" ∷ "var int b" ∷ "let a 7" ∷ "let b a" ∷ "let a 8" ∷ "assert eq b 8" ∷ "end" ∷ []

-- permissions of two fields do not tell two objects apart: s and t may be one
unfoldable pub two_fields : List String
two_fields =
    "class S" ∷
    "field int m" ∷
    "field int n" ∷
    "method int f S w" ∷
    "requires acc this m acc w n" ∷
    "ensures" ∷
    "assert ne this w" ∷
    "end" ∷
    "main" ∷
    "end" ∷
    []

-- a method with the last lines of two branches, their `join` and the line after it; main calls it for the first branch
unfoldable pub branching : String → String → String → String → List String
branching a b c d =
    "class A" ∷
    "method int m int w" ∷
    "requires" ∷
    "ensures eq result w" ∷
    "if eq w 1" ∷
    a ∷
    "else" ∷
    b ∷
    c ∷
    d ∷
    "end" ∷
    "main" ∷
    "var A s" ∷
    "var int a" ∷
    "var int b" ∷
    "new s A" ∷
    "let a 1" ∷
    "call b s m a" ∷
    "end" ∷
    []

-- all inside the first branch returns, but its last line is a `join`
unfoldable pub inner_join : List String
inner_join =
    "class A" ∷
    "method int m int w" ∷
    "requires" ∷
    "ensures eq result w" ∷
    "if eq w 1" ∷
    "if eq w 2" ∷
    "return w" ∷
    "else" ∷
    "return w" ∷
    "join" ∷
    "else" ∷
    "return w" ∷
    "join eq result w" ∷
    "end" ∷
    "main" ∷
    "end" ∷
    []

-- "If `a = s.n` and `s.n = b` are known and `s.n` is set, the checker loses `a = b`": what it knows after a line, the 13th
unfoldable pub through_path : String → String → List String
through_path l m = script ("new s S" ∷ "set s n b" ∷ "let a s.n" ∷ l ∷ m ∷ [])

-- a link over two paths that are both dropped
unfoldable pub over_two_paths : List String
over_two_paths =
    script
    ("new s S" ∷
    "new t S" ∷
    "set s n a" ∷
    "set t n b" ∷
    "if eq s.n t.n" ∷
    "release acc s n acc t n" ∷
    "assert eq a b" ∷
    "else" ∷
    "join" ∷
    [])

-- two entries get one name, and a line drops one of them or sets it
unfoldable pub one_name : String → List String
one_name l =
    script ("new s S" ∷ "new t S" ∷ "if eq s t" ∷ "let t null" ∷ l ∷ "assert eq s.n 0" ∷ "else" ∷ "join" ∷ [])

-- each call adds eight equalities with one term on both sides, and those of the calls before go
unfoldable pub one_on_both_sides : ℕ → List String
one_on_both_sides n =
    "class S" ∷
    "method int m int w" ∷
    "requires" ∷
    "ensures eq w w eq w w eq w w eq w w eq w w eq w w eq w w eq w w" ∷
    "end" ∷
    "main" ∷
    "var S s" ∷
    "var int a" ∷
    "var int b" ∷
    "new s S" ∷
    (times n "call b s m a" ++ ("end" ∷ []))

-- two numbers and a line on them
unfoldable pub counting : String → String → String → List String
counting b c l = numbers (b ∷ c ∷ l ∷ [])

-- a counts to 3 in a loop, the 9th line, by way of either branch; the 10th line is the body's first, the 17th comes after the loop
unfoldable pub walk : String → List String
walk l =
    "class S" ∷
    "field int n" ∷
    "main" ∷
    "var S s" ∷
    "var int a" ∷
    "var int i" ∷
    "let i 1" ∷
    "new s S" ∷
    l ∷
    "set s n a" ∷
    "if eq a 1" ∷
    "let a 2" ∷
    "else" ∷
    "add a a i" ∷
    "join acc s n" ∷
    "again" ∷
    "assert eq a 3" ∷
    "end" ∷
    []

-- the body of a loop makes its invariant false, and then has this line
unfoldable pub leaving : String → List String
leaving l =
    "class A" ∷
    "method int m int w" ∷
    "requires" ∷
    "ensures eq result w" ∷
    "var int v" ∷
    "let v 0" ∷
    "loop ne w 1 eq v 0" ∷
    "let v 1" ∷
    l ∷
    "again" ∷
    "return w" ∷
    "end" ∷
    "main" ∷
    "var A s" ∷
    "var int a" ∷
    "var int b" ∷
    "new s A" ∷
    "call b s m a" ∷
    "end" ∷
    []

-- ensures reads `this.n` before its `acc`
unfoldable pub unframed : List String
unframed = with_line 6 "ensures eq this.n k acc this n" worked

-- the 63rd call inside another finds all frames taken; this says what requires asks of its argument, 63
unfoldable pub deep : String → List String
deep l =
    "class S" ∷
    "method int m int w" ∷
    l ∷
    "ensures" ∷
    "var int a" ∷
    "var int b" ∷
    "let b 1" ∷
    "add a w b" ∷
    "call b this m a" ∷
    "end" ∷
    "main" ∷
    "var S s" ∷
    "var int a" ∷
    "var int b" ∷
    "new s S" ∷
    "call b s m a" ∷
    "end" ∷
    []

-- 7 (an int and null) and 6 (x) on one line
unfoldable pub lower : List String
lower = "main" ∷ "var int a" ∷ "assert eq a null eq x 1" ∷ "end" ∷ []

-- one into a ring, a ring of two, and main's call of it
unfoldable pub rings : List String
rings =
    ("class S" ∷ method "method int into int w" ("call a this there w" ∷ []))
    ++ (method "method int there int w" ("call a this back w" ∷ [])
    ++ (method "method int back int w" ("call a this there w" ∷ [])
    ++ ("main" ∷ "var S s" ∷ "var int b" ∷ "var int c" ∷ "new s S" ∷ "call b s into c" ∷ "end" ∷ [])))

-- main's bound is 1,000,000, and what these lines add
unfoldable pub tens : List String → List String
tens ls =
    ("class S" ∷ method "method int m0 int w" [])
    ++ (method "method int m1 int w" (times 10 "call a this m0 w")
    ++ (method "method int m2 int w" (times 10 "call a this m1 w")
    ++ (method "method int m3 int w" (times 10 "call a this m2 w")
    ++ (method "method int m4 int w" (times 10 "call a this m3 w")
    ++ (method "method int m5 int w" (times 10 "call a this m4 w")
    ++ ("main" ∷ "var S s" ∷ "var int b" ∷ "var int c" ∷ "new s S" ∷ []
    ++ (times 4 "call b s m5 c" ++ (times 5 "call b s m4 c" ++ (ls ++ ("end" ∷ []))))))))))

-- "A recursive walk over a chain must pass the check": each card gets the number k
unfoldable pub walked : List String
walked =
    "class S" ∷
    "field S prev" ∷
    "field int n" ∷
    "method int visit int k" ∷
    "requires ne this null chain this prev" ∷
    "ensures chain this prev" ∷
    "var S t" ∷
    "var int r" ∷
    "open t this prev" ∷
    "if ne t null" ∷
    "call r t visit k" ∷
    "else" ∷
    "join acc this prev eq this.prev t chain t prev" ∷
    "shut this prev" ∷
    "return k" ∷
    "end" ∷
    "main" ∷
    "var S a" ∷
    "var S b" ∷
    "var S c" ∷
    "var int k" ∷
    "var int r" ∷
    "new a S" ∷
    "shut a prev" ∷
    "new b S" ∷
    "set b prev a" ∷
    "shut b prev" ∷
    "new c S" ∷
    "set c prev b" ∷
    "shut c prev" ∷
    "let k 7" ∷
    "call r c visit k" ∷
    "assert chain c prev" ∷
    "open a c prev" ∷
    "assert acc c prev eq c.prev a" ∷
    "end" ∷
    []

-- a main with the cards s, t, u and these lines, from line 8 on
unfoldable pub cards : List String → List String
cards ls =
    "class S" ∷ "field S prev" ∷ "field int n" ∷ "main" ∷ "var S s" ∷ "var S t" ∷ "var S u" ∷ (ls ++ ("end" ∷ []))

-- two cards of which s links to t, and these lines, from line 11 on
unfoldable pub linked : List String → List String
linked ls = cards ("new s S" ∷ "new t S" ∷ "set s prev t" ∷ ls)

-- the same, both shut, from line 13 on
unfoldable pub shut_both : List String → List String
shut_both ls = linked ("shut t prev" ∷ "shut s prev" ∷ ls)

-- two cards that link to each other, from line 12 on
unfoldable pub ring : List String → List String
ring ls = linked ("set t prev s" ∷ ls)

-- a method of S with a parameter w of S, with this requires and these lines, from line 7 on
unfoldable pub of_chain : String → List String → List String
of_chain requires ls =
    "class S" ∷ "field S prev" ∷ "method int m S w" ∷ requires ∷ "ensures" ∷ "var S t" ∷ (ls ++ ("end" ∷ "main" ∷ "end" ∷ []))

-- a method of S with a parameter w of S, with this requires and, from line 6 on, these lines
unfoldable pub of_two : String → List String → List String
of_two requires ls =
    "class S" ∷ "field int n" ∷ "method int m S w" ∷ requires ∷ "ensures" ∷ (ls ++ ("end" ∷ "main" ∷ "end" ∷ []))

-- a main with a new card s, and these lines from line 11 on
unfoldable pub with_card : List String → List String
with_card ls = script ("new s S" ∷ ls)

-- a method of S, which has three fields, with a parameter w of S, the requires to be filled in, at line 6, and, from line 9 on, these lines
unfoldable pub filling : List String → List String
filling ls =
    "class S" ∷
    "field S p" ∷
    "field int n" ∷
    "field int k" ∷
    "method int m S w" ∷
    "requires *" ∷
    "ensures" ∷
    "var int a" ∷
    (ls ++ ("end" ∷ "main" ∷ "end" ∷ []))

-- two methods with a star
unfoldable pub two_stars : List String
two_stars =
    "class S" ∷
    "field int n" ∷
    "method int m int w" ∷
    "requires *" ∷
    "ensures" ∷
    "end" ∷
    "method int o int w" ∷
    "requires *" ∷
    "ensures" ∷
    "assert eq 1 2" ∷
    "end" ∷
    "main" ∷
    "end" ∷
    []

-- so many objects of a class with five fields
unfoldable pub wide : ℕ → List String
wide n =
    "class W" ∷
    "field int a" ∷
    "field int b" ∷
    "field int c" ∷
    "field int d" ∷
    "field int e" ∷
    "main" ∷
    "var W w" ∷
    (times n "new w W" ++ ("end" ∷ []))

-- Everything above computes where this unfolds.
unfoldable pub opened : Unit {0}
unfolding alias across_call twice old_value two_fields branching inner_join through_path over_two_paths one_name one_on_both_sides counting walk leaving unframed deep lower rings tens walked cards linked shut_both ring of_chain of_two with_card filling two_stars wide
opened = tt
