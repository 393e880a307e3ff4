-- W14, all small scripts: "each accepted main of 0 to 3 statements over `class S`, `field int n`, `var S s`, `var int a`".
use Rattle.std.specs.Prelude.{Bool, List, [], ◌∷◌, ◌++◌, map, ℕ, zero, suc, pred, ◌+◌, eqb, get_or}
use Rattle.rules.specs.Base.{Name, bytes, keep}
use Rattle.rules.specs.Text.{line_feed, digit_zero}
use Rattle.rules.specs.Calls.{check_text}

-- TEXTS

-- a main, by "the places from 1 of its statements"
abbrev pub Main : Type 0
Main = List ℕ

-- "The statements, in this order, are `new s S`, `let a s.n`, `let a 7`, `set s n a`, `release acc s n`.": each as a line
abbrev pub statements : List Name
statements =
    bytes "new\ts\tS\n" ∷ bytes "let\ta\ts.n\n" ∷ bytes "let\ta\t7\n" ∷ bytes "set\ts\tn\ta\n" ∷ bytes "release\tacc\ts\tn\n" ∷ []

abbrev pub places : List ℕ
places = 1 ∷ 2 ∷ 3 ∷ 4 ∷ 5 ∷ []

unfoldable pub statement : ℕ → Name
statement p = get_or statements (pred p) []

-- "over `class S`, `field int n`, `var S s`, `var int a`": the lines before the statements
unfoldable pub opening : Name
opening = bytes "class\tS\nfield\tint\tn\nmain\nvar\tS\ts\nvar\tint\ta\n"

unfoldable pub body : Main → Name
body [] = []
body (p ∷ m) = statement p ++ body m

unfoldable pub closing : Name
closing = bytes "end\n"

unfoldable pub text_of : Main → List ℕ
text_of m = opening ++ (body m ++ closing)

unfoldable pub accepted : Main → Bool
accepted m = let v : ℕ × ℕ = check_text (text_of m) in eqb v.0 0

-- THE LIST

-- "of 0 to 3 statements"
abbrev pub most_statements : ℕ
most_statements = 3

-- each of these places before each of these mains
unfoldable pub each_first : List ℕ → List Main → List Main
each_first [] ms = []
each_first (p ∷ ps) ms = map (λ m. p ∷ m) ms ++ each_first ps ms

-- all mains of n statements, "by the first statement that differs"
unfoldable pub mains : ℕ → List Main
mains zero = [] ∷ []
mains (suc n) = each_first places (mains n)

-- those of at most n: "Shorter ones come first"
unfoldable pub mains_to : ℕ → List Main
mains_to zero = mains zero
mains_to (suc n) = mains_to n ++ mains (suc n)

-- all that are tried
abbrev pub candidates : List Main
candidates = mains_to most_statements

-- "each accepted main"
unfoldable pub small : List Main
small = keep accepted candidates

-- WHAT IS PRINTED

-- "one a line, as the places from 1 of its statements without gaps; the empty one is an empty line"
unfoldable pub line_of : Main → Name
line_of m = map (λ p. digit_zero + p) m ++ (line_feed ∷ [])

unfoldable pub lines_of : List Main → Name
lines_of [] = []
lines_of (m ∷ ms) = line_of m ++ lines_of ms

abbrev pub printed : Name
printed = lines_of small

-- Everything above computes where this unfolds.
unfoldable pub opened : Unit {0}
unfolding statement opening body closing text_of accepted each_first mains mains_to small line_of lines_of
opened = tt
