-- Steps known before the run (W6): the bound of a block, the most frames on a route of calls, and the lines that leave no bound.
use Rattle.std.specs.Prelude.{Bool, true, false, cond, ◌||◌, List, [], ◌∷◌, map, ℕ, zero, suc, ◌+◌, max, eqb, leb, length, get_or, drop}
use Rattle.std.proofs.Math.Option.{Option, none, some}
use Rattle.rules.specs.Base.{any, first, map_option}
use Rattle.rules.specs.Limits.{most_bound}
use Rattle.rules.specs.Answers.{Verdict, accepted, refused, unbounded, bound_passed}
use Rattle.rules.specs.Syntax.{Stmt, Row, Program, no_row}
use Rattle.rules.specs.Syntax.{set, assign, compute, new, call, return, assert, release, open_chain, shut_chain, simple, if, else, join, loop, again, end}

-- BLOCKS

unfoldable pub is_end : Stmt → Bool
is_end (simple p) = false
is_end (return x) = false
is_end (if n a b) = false
is_end else = false
is_end (join φ) = false
is_end (loop n a b φ) = false
is_end again = false
is_end end = true

-- the method that a line calls
unfoldable pub called : Stmt → Option ℕ
called (simple p) =
    elim p [
      | call x y n z ↦ some n
      | set x f y ↦ none
      | assign x e ↦ none
      | compute o x y z ↦ none
      | new x c ↦ none
      | assert φ ↦ none
      | release φ ↦ none
      | open_chain y z f ↦ none
      | shut_chain z f ↦ none
    ]
called (return x) = none
called (if n a b) = none
called else = none
called (join φ) = none
called (loop n a b φ) = none
called again = none
called end = none

-- a block: its statement lines, the last of which is its `end`
abbrev pub Block : Type 0
Block = List Row

-- what stands for a block that is not there, as past the last row
abbrev pub no_block : Block
no_block = no_row ∷ []

unfoldable pub up_to_end : List Row → Block
up_to_end [] = no_block
up_to_end (r ∷ rs) = let b : Block = up_to_end rs in r ∷ cond (is_end r.stmt) [] b

-- the block that starts at row i
unfoldable pub block : Program → ℕ → Block
block P i = up_to_end (drop i P.rows)

-- those of the methods
unfoldable pub blocks : Program → List Block
blocks P = map (λ M. block P M.first) P.methods

-- the methods that a block calls, one for each `call` line
unfoldable pub callees : Block → List ℕ
callees b = map_option (λ r. called r.stmt) b

-- WHAT METHODS HAVE BY THEIR CALLS

-- f: what a block has, by what the methods that it calls have; d: what `no_block` has. Each round gives all methods what they have by
-- the round before, and a route of calls on which no method comes twice is no longer than there are methods.
module _ {A : Type 0} (d : A) (f : (ℕ → A) → Block → A) (bs : List Block) where
  unfoldable pub round : ℕ → List A
  round zero = []
  round (suc k) = let t : List A = round k in map (f λ n. get_or t n d) bs

  unfoldable pub value_by : ℕ → A
  value_by n = get_or (round (length bs)) n d

unfoldable pub total : List ℕ → ℕ
total [] = 0
total (n ∷ ns) = n + total ns

unfoldable pub greatest : List ℕ → ℕ
greatest [] = 0
greatest (n ∷ ns) = max n (greatest ns)

-- "A block's bound is its statement lines plus, for each `call` line, the bound of the method called."
unfoldable pub block_bound : (ℕ → ℕ) → Block → ℕ
block_bound bound b = length b + total (map bound (callees b))

unfoldable pub method_bound : List Block → ℕ → ℕ
method_bound bs = value_by 1 block_bound bs

-- "the most frames on a route of calls": the block's own, and the most on a route from one of its calls
unfoldable pub block_frames : (ℕ → ℕ) → Block → ℕ
block_frames frames b = suc (greatest (map frames (callees b)))

unfoldable pub method_frames : List Block → ℕ → ℕ
method_frames bs = value_by 1 block_frames bs

-- "can reach by calls" the method a
unfoldable pub block_reaches : ℕ → (ℕ → Bool) → Block → Bool
block_reaches a reach b = any (λ n. eqb n a || reach n) (callees b)

unfoldable pub reaches : List Block → ℕ → ℕ → Bool
reaches bs a = value_by false (block_reaches a) bs

-- MAIN'S

unfoldable pub main_bound : Program → ℕ
main_bound P = block_bound (method_bound (blocks P)) (block P P.main)

-- "main's counted"
unfoldable pub main_frames : Program → ℕ
main_frames P = block_frames (method_frames (blocks P)) (block P P.main)

-- LINES THAT LEAVE NO BOUND

-- a call of n "whose method is, or can reach by calls, the method that the line is in": the method a, or main, which no method calls
unfoldable pub recursive : List Block → Option ℕ → ℕ → Bool
recursive bs none n = false
recursive bs (some a) n = eqb n a || reaches bs a n

unfoldable pub is_loop : Stmt → Bool
is_loop (simple p) = false
is_loop (return x) = false
is_loop (if n a b) = false
is_loop else = false
is_loop (join φ) = false
is_loop (loop n a b φ) = true
is_loop again = false
is_loop end = false

-- "a `loop` or a `call`" that is recursive
unfoldable pub repeats : List Block → Option ℕ → Stmt → Bool
repeats bs a s = elim (called s) [ none ↦ is_loop s | some n ↦ recursive bs a n ]

unfoldable pub or_later : {A : Type 0} → Option A → Option A → Option A
or_later none o = o
or_later (some a) o = some a

unfoldable pub first_in : List Block → Option ℕ → Block → Option Row
first_in bs a = first (λ r. repeats bs a r.stmt)

-- "the first line": of the blocks of the methods from number a on, then of main's
unfoldable pub first_from : List Block → ℕ → List Block → Block → Option Row
first_from bs a [] main = first_in bs none main
first_from bs a (b ∷ rest) main = let r : Option Row = first_from bs (suc a) rest main in or_later (first_in bs (some a) b) r

unfoldable pub first_repeating : Program → Option Row
first_repeating P = first_from (blocks P) 0 (blocks P) (block P P.main)

-- THE ANSWER: bound and frames

-- "with 15 at the first line that is .., and then with 16 at line 0 if the bound passes 1,000,000"
unfoldable pub bound_of : Program → Option Row → Verdict (ℕ × ℕ)
bound_of P (some r) = refused unbounded r.line
bound_of P none = cond (leb (main_bound P) most_bound) (accepted (main_bound P, main_frames P)) (refused bound_passed 0)

unfoldable pub bound_program : Program → Verdict (ℕ × ℕ)
bound_program P = bound_of P (first_repeating P)

-- Everything above computes where this unfolds.
unfoldable pub opened : Unit {0}
unfolding is_end called up_to_end block blocks callees round value_by total greatest block_bound method_bound block_frames method_frames block_reaches reaches main_bound main_frames recursive is_loop repeats or_later first_in first_from first_repeating bound_of bound_program
opened = tt
