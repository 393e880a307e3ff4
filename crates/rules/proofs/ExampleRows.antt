-- Examples as rows: a text, a call and its answer. Texts as the papers show them, and parts that several texts share.
use mathlib.Core.Bool.{Bool, cond}
use mathlib.Core.List.{List, [], ◌∷◌, ◌++◌, map}
use Prim.Native.Nat.{ℕ, zero, suc, pred}
use Prim.Native.String.{String}
use lib.Dec.{eqb}
use lib.ListN.{length, replicate}
use Rattle.rules.specs.Base.{bytes, update, eq_name}
use Rattle.rules.specs.Text.{tab, line_feed}
use Rattle.rules.specs.Bounds.{total}
use Rattle.rules.specs.Calls.{Result, Bounds, Filled, Counted, check_text, run_text, trial_text, lean_text, bound_text, fill_text, count_text}
use Rattle.rules.specs.Areas.{Checked, Ran, Bounded, FillCalled, check_call, run_call, trial_call, lean_call, bound_call, fill_call, count_call}
use Rattle.rules.specs.Printed.{printed}

-- TEXTS

-- "Fields are parted by one tab, shown below as a space."
unfoldable pub tabbed : List ℕ → List ℕ
tabbed = map (λ b. cond (eqb b 32) tab b)

-- lines as the paper shows them
unfoldable pub text : List String → List ℕ
text [] = []
text (l ∷ ls) = tabbed (bytes l) ++ (line_feed ∷ text ls)

-- with line n written so
unfoldable pub with_line : ℕ → String → List String → List String
with_line n l ls = update "" ls (pred n) l

unfoldable pub times : ℕ → String → List String
times zero l = []
times (suc n) l = l ∷ times n l

-- main with an int a and one line
unfoldable pub one_line : String → List String
one_line l = "main" ∷ "var int a" ∷ l ∷ "end" ∷ []

-- a main that starts with these lines, from line 10 on
unfoldable pub script : List String → List String
script ls =
    "class S" ∷
    "field S prev" ∷
    "field int n" ∷
    "main" ∷
    "var S s" ∷
    "var S t" ∷
    "var int a" ∷
    "var int b" ∷
    "var int c" ∷
    (ls ++ ("end" ∷ []))

-- a main with three numbers that has these lines, from line 5 on
unfoldable pub numbers : List String → List String
numbers ls = "main" ∷ "var int a" ∷ "var int b" ∷ "var int c" ∷ (ls ++ ("end" ∷ []))

-- a method of the class S with these lines and an int a
unfoldable pub method : String → List String → List String
method head ls = head ∷ "requires ne this null" ∷ "ensures" ∷ "var int a" ∷ (ls ++ ("end" ∷ []))

-- ROWS

-- In the last five both areas are lent, with these lengths, and all their bytes are 7. A count has the count of scripts, the rounds, the
-- texts after the row's own, and the shares.
pub data Call : Type 0 where
  check : Call
  run : ℕ → Call
  trial : ℕ → Call
  lean : ℕ → Call
  bound : Call
  fill : Call
  count : ℕ → ℕ → List (List String) → List ℕ → Call
  print : Call
  check_in : ℕ → Call
  run_in : ℕ → ℕ → ℕ → Call
  trial_in : ℕ → ℕ → ℕ → Call
  lean_in : ℕ → ℕ → ℕ → Call
  bound_in : ℕ → ℕ → Call
  fill_in : ℕ → ℕ → Call
  count_in : ℕ → ℕ → ℕ → ℕ → List (List String) → List ℕ → Call

unfoldable pub shown : Result → List ℕ
shown r = r.number ∷ r.line ∷ r.steps ∷ r.values

unfoldable pub shown_all : List Result → List ℕ
shown_all [] = []
shown_all (r ∷ rs) = shown r ++ shown_all rs

unfoldable pub lent : ℕ → List ℕ
lent n = replicate n 7

-- of a work area its length and the sum of its bytes
unfoldable pub summed : List ℕ → List ℕ
summed work = length work ∷ total work ∷ []

unfoldable pub shown_ran : Ran → List ℕ
shown_ran c = c.returned ∷ (summed c.work ++ c.results)

-- number and line; of a run also the steps and the values; of a bound also the frames; of a fill the places; of a count all four results;
-- of the program what it prints; of a call with lent areas what it returns and leaves there
unfoldable pub answer : List ℕ → Call → List ℕ
answer t check = let v : ℕ × ℕ = check_text t in v.0 ∷ v.1 ∷ []
answer t (run k) = shown (run_text t k)
answer t (trial k) = shown (trial_text t k)
answer t (lean k) = shown (lean_text t k)
answer t bound = let b : Bounds = bound_text t in b.number ∷ b.line ∷ b.bound ∷ b.frames ∷ []
answer t fill = let f : Filled = fill_text t in f.number ∷ f.line ∷ f.places
answer t (count n r ts ks) =
    let c : Counted = count_text n r (t ∷ map text ts) ks in c.number ∷ c.line ∷ shown_all c.scripts
answer t print = printed t
answer t (check_in w) = let c : Checked = check_call t (lent w) in c.returned ∷ summed c.work
answer t (run_in w k n) = shown_ran (run_call t (lent w) k (lent n))
answer t (trial_in w k n) = shown_ran (trial_call t (lent w) k (lent n))
answer t (lean_in w k n) = shown_ran (lean_call t (lent w) k (lent n))
answer t (bound_in w n) = let c : Bounded = bound_call t (lent w) (lent n) in c.returned ∷ (summed c.work ++ c.bounds)
answer t (fill_in w n) = let c : FillCalled = fill_call t (lent w) (lent n) in c.returned ∷ (summed c.work ++ c.places)
answer t (count_in w b n r ts ks) = shown_ran (count_call n r (t ∷ map text ts) (lent w) ks (lent b))

pub record Row : Type 0 where
  pub text : List ℕ
  pub call : Call
  pub answer : List ℕ

-- by the bytes of the text
unfoldable pub bare : List ℕ → Call → List ℕ → Row
bare t c a = record { text = t; call = c; answer = a }

-- by its lines
unfoldable pub row : List String → Call → List ℕ → Row
row ls = bare (text ls)

-- three values, then zeros
unfoldable pub three : ℕ → ℕ → ℕ → List ℕ
three a b c = a ∷ b ∷ c ∷ 0 ∷ 0 ∷ 0 ∷ 0 ∷ 0 ∷ 0 ∷ 0 ∷ 0 ∷ 0 ∷ []

-- a script that was refused, or is not there: zeros for steps and values
unfoldable pub zeros : ℕ → ℕ → List ℕ
zeros number line = number ∷ line ∷ 0 ∷ three 0 0 0

-- so many times
unfoldable pub repeated : ℕ → List ℕ → List ℕ
repeated zero l = []
repeated (suc n) l = l ++ repeated n l

-- the row's call gives its answer
unfoldable pub right : Row → Bool
right r = eq_name (answer r.text r.call) r.answer

-- Everything above computes where this unfolds.
unfoldable pub opened : Unit {0}
unfolding tabbed text with_line times one_line script numbers method shown shown_all lent summed shown_ran answer bare row three zeros repeated right
opened = tt
