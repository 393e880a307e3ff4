-- Where `if`, `else`, `loop` and `again` go on: a walk over the statement rows with the rows of the open branches and loops, innermost
-- first.
use Rattle.std.specs.Prelude.{cond, ◌||◌, List, [], ◌∷◌, ℕ, zero, suc, ◌+◌, ◌*◌, ◌/◌, ◌%◌, ◌≤◌, ◌<◌, eqb, ltb, length}
use Rattle.rules.specs.Grammar.{if_kind, else_kind, join_kind, loop_kind, again_kind}
use Rattle.rules.specs.Limits.{most_branches}
use Rattle.tables.specs.Numbers.{byte_values}
use Rattle.tables.specs.Decode.{kind_at, target_place}
use Rattle.tables.specs.Stores.{put_half}

-- the open rows, at most `most_branches`
unfoldable pub pushed : ℕ → List ℕ → List ℕ
pushed i st = cond (ltb (length st) most_branches) (i ∷ st) st

unfoldable pub popped : List ℕ → List ℕ
popped [] = []
popped (t ∷ st) = st

unfoldable pub replaced : ℕ → List ℕ → List ℕ
replaced i [] = []
replaced i (t ∷ st) = i ∷ st

-- `if` opens a branch and `loop` a loop; `else` stands for its `if` from here on; `join` and `again` close
unfoldable pub open_after : ℕ → ℕ → List ℕ → List ℕ
open_after k i st =
    cond (eqb k if_kind || eqb k loop_kind) (pushed i st)
    (cond (eqb k else_kind) (replaced i st)
    (cond (eqb k join_kind || eqb k again_kind) (popped st)
    st))

-- row t goes on to row v
unfoldable pub put_target : List ℕ → ℕ → ℕ → List ℕ
put_target w t v = put_half w (target_place t) v

-- what row i closes is row t: `else` is what a false `if` goes past, `join` what an `else` goes on to, `again` what a false `loop` goes
-- past, and itself goes back to it
unfoldable pub closed : List ℕ → ℕ → ℕ → ℕ → List ℕ
closed w k i t =
    cond (eqb k else_kind) (put_target w t (i + 1))
    (cond (eqb k join_kind) (put_target w t i)
    (cond (eqb k again_kind) (put_target (put_target w t (i + 1)) i t)
    w))

unfoldable pub work_after : List ℕ → ℕ → ℕ → List ℕ → List ℕ
work_after w k i [] = w
work_after w k i (t ∷ st) = closed w k i t

-- n rows from row i on
unfoldable pub targets_from : List ℕ → ℕ → ℕ → List ℕ → List ℕ
targets_from w i zero st = w
targets_from w i (suc n) st = targets_from (work_after w (kind_at w i) i st) (suc i) n (open_after (kind_at w i) i st)

-- a list of d rows as one number, the innermost in its lowest byte
unfoldable pub stack_of : ℕ → ℕ → List ℕ
stack_of zero s = []
stack_of (suc d) s = s % byte_values ∷ stack_of d (s / byte_values)

-- it has no more bytes than rows
unfoldable pub power : ℕ → ℕ
power zero = 1
power (suc d) = power d * byte_values

abbrev pub StackFits : ℕ → ℕ → Type 0
StackFits d s = (d ≤ most_branches) × (s < power d)
