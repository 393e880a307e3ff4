-- How a row is counted, over what is known of the methods.
use Rattle.std.specs.Prelude.{List, ℕ, suc, ◌+◌, ◌≤◌, ◌<◌, min, max, get_or, Result, Ok, Err}
use Rattle.rules.specs.Limits.{most_bound, most_methods}
use Rattle.bound_rows.specs.declared.Line.{Line}
use Rattle.bound_rows.specs.declared.Line.TheVariants as Lines
use Rattle.bound_walk.specs.declared.Visit.{Visit}
use Rattle.bound_walk.specs.declared.Visit.TheVariants.{NotVisited, OnRoute, Done}
use Rattle.bound_walk.specs.declared.Reckoned.{Reckoned}
use Rattle.bound_walk.specs.declared.Open.{Open}
use Rattle.bound_walk.specs.declared.Halt.{Halt}
use Rattle.bound_walk.specs.declared.Halt.TheVariants.{Wait, Loop, End}
use Rattle.bound_walk.specs.declared.Scanned.{Scanned}

-- beyond the greatest bound only that it is passed
abbrev pub cap : ℕ → ℕ
cap n = min n (suc most_bound)

abbrev pub fresh : Reckoned
fresh = record { visit = NotVisited; frames = 0 }

-- what a row comes to: it is counted, with the sum and the frames so far, or the counting stops at it
abbrev pub Looked : Type 0
Looked = Result (ℕ × ℕ) Halt

-- a call of the method c, of which the visit and the frames f are known
unfoldable pub looked_call : Visit → ℕ → ℕ → ℕ → ℕ → Looked
looked_call (Done b) f c sum frames = Ok (cap (sum + 1 + b), max frames f)
looked_call NotVisited f c sum frames = Err (Wait c)
looked_call OnRoute f c sum frames = Err (Wait c)

unfoldable pub looked : List Reckoned → Line → ℕ → ℕ → Looked
looked marks Lines.Plain sum frames = Ok (cap (sum + 1), frames)
looked marks (Lines.Call c) sum frames = looked_call (get_or marks c fresh).visit (get_or marks c fresh).frames c sum frames
looked marks Lines.Loop sum frames = Err Loop
looked marks Lines.End sum frames = Err End

-- the `end` of a block is counted too
abbrev pub sum_at : ℕ → Halt → ℕ
sum_at sum (Wait c) = sum
sum_at sum Loop = sum
sum_at sum End = cap (sum + 1)

-- the counting of the block o stops at a row
unfoldable pub stopped_at : Open → ℕ → ℕ → ℕ → Halt → Scanned
stopped_at o row sum frames f = record { block = record { method = o.method; row = row; sum = sum_at sum f; frames = frames }; found = f }

-- no sum is greater than one past the greatest bound
abbrev pub BoundFits : Visit → Type 0
BoundFits NotVisited = Unit {0}
BoundFits OnRoute = Unit {0}
BoundFits (Done b) = b ≤ suc most_bound

abbrev pub Counts : List Reckoned → ℕ → Type 0
Counts marks sum = (sum ≤ suc most_bound) × ((c : ℕ) → BoundFits (get_or marks c fresh).visit)

abbrev pub CallFits : Line → Type 0
CallFits Lines.Plain = Unit {0}
CallFits (Lines.Call c) = c < most_methods
CallFits Lines.Loop = Unit {0}
CallFits Lines.End = Unit {0}
