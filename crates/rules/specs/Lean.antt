-- W10, "A lean machine for the boats": no permission sets; assert, requires, ensures, join and invariants are not evaluated; each line is a
-- step still. Heap, values, branches and the order of rows are the machine's.
use Rattle.std.specs.Prelude.{cond, ◌&&◌, List, [], ◌∷◌, ◌++◌, map, ℕ, zero, suc, ◌+◌, ◌%◌, ltb, leb, length, get_or, take, drop}
use Rattle.rules.specs.Base.{update}
use Rattle.rules.specs.Limits.{most_frames, values_shown}
use Rattle.rules.specs.Answers as Answers
use Rattle.rules.specs.Syntax.{Rel, Expr, Operation, Simple, Stmt, Row, Field, Method, Program, row_numbered, method_numbered, first_local, result_variable, words}
use Rattle.rules.specs.Syntax.{num, null, var, path, set, assign, compute, new, call, return, assert, release, open_chain, shut_chain, simple, if, else, join, loop, again, end}
use Rattle.rules.specs.Machine as Machine
use Rattle.rules.specs.Machine.{Heap, Room, value_at, store, fields_in, new_cell, entry_values, compared, closing, loop_of, raised, in_range, target_of}

-- ANSWERS

-- "Stops 24, 25 and 26 are shown not to occur there and are taken out of its answers."
pub data Stop : Type 0 where
  heap_full : Stop
  frames_full : Stop
  overflow : Stop

pub data Ending : Type 0 where
  finished : Ending
  steps_taken : Ending
  stopped : Stop → Ending

-- the row of the table that each is
unfoldable pub stop_of : Stop → Answers.Stop
stop_of heap_full = Answers.Stop.heap_full
stop_of frames_full = Answers.Stop.frames_full
stop_of overflow = Answers.Stop.overflow

unfoldable pub ending_of : Ending → Answers.Ending
ending_of finished = Answers.Ending.finished
ending_of steps_taken = Answers.Ending.steps_taken
ending_of (stopped s) = Answers.Ending.stopped (stop_of s)

-- FRAMES

-- "without permission sets": values, and the number of the row that it does next
pub record Frame : Type 0 where
  pub values : List ℕ
  pub row : ℕ

pub record Config : Type 0 where
  pub heap : Heap
  pub frame : Frame
  pub callers : List Frame

unfoldable pub value_of : Frame → ℕ → ℕ
value_of F x = get_or F.values x 0

unfoldable pub jump : ℕ → Frame → Frame
jump i F = record { values = F.values; row = i }

-- on to the next line
unfoldable pub advance : Frame → Frame
advance F = jump (suc F.row) F

unfoldable pub bind : ℕ → ℕ → Frame → Frame
bind x v F = record { values = update 0 F.values x v; row = F.row }

-- another heap and frame
unfoldable pub moved : Config → Heap → Frame → Config
moved m h F = record { heap = h; frame = F; callers = m.callers }

-- STEPS

pub data Step : Type 0 where
  on : Config → Step
  stop : Stop → Step
  done : Step

unfoldable pub value : Heap → Frame → Expr ℕ → ℕ
value h F (num n) = n
value h F null = 0
value h F (var x) = value_of F x
value h F (path x f) = value_at h (value_of F x) f

-- "`release`, `assert` and `join` each still a step", and `shut`: on to the next line
unfoldable pub pass_step : Config → Step
pass_step m = on (moved m m.heap (advance m.frame))

unfoldable pub jump_step : ℕ → Config → Step
jump_step i m = on (moved m m.heap (jump i m.frame))

unfoldable pub set_step : ℕ → ℕ → ℕ → Config → Step
set_step x f y m = on (moved m (store m.heap (value_of m.frame x) f (value_of m.frame y)) (advance m.frame))

-- `let`; and `open y x f`, by which "y becomes `x.f`"
unfoldable pub assign_step : ℕ → Expr ℕ → Config → Step
assign_step x e m = on (moved m m.heap (advance (bind x (value m.heap m.frame e) m.frame)))

-- "A result beyond 32 bits signed stops the run"
unfoldable pub compute_step : Operation → ℕ → ℕ → ℕ → Config → Step
compute_step o x y z m =
    let n : ℕ = raised o (value_of m.frame y) (value_of m.frame z) in
    cond (in_range n) (on (moved m m.heap (advance (bind x (n % words) m.frame)))) (stop overflow)

unfoldable pub new_step : Room → ℕ → List Field → Config → Step
new_step room x fs m =
    cond (ltb (length m.heap) room.objects && leb (fields_in m.heap + length fs) room.fields)
    (on (moved m (m.heap ++ (map new_cell fs ∷ [])) (advance (bind x (suc (length m.heap)) m.frame))))
    (stop heap_full)

unfoldable pub call_step : ℕ → Method → ℕ → Config → Step
call_step y M z m =
    cond (ltb (suc (length m.callers)) most_frames)
    (on
    (record {
      heap = m.heap;
      frame = record { values = entry_values (value_of m.frame y) (value_of m.frame z); row = M.first };
      callers = m.frame ∷ m.callers;
    }))
    (stop frames_full)

-- one of two rows, by the condition
unfoldable pub choose : Rel → Expr ℕ → Expr ℕ → ℕ → ℕ → Config → Step
choose n a b i j m =
    jump_step (cond (compared n (value m.heap m.frame a) (value m.heap m.frame b)) i j) m

-- `if`, and `loop` without its invariant
unfoldable pub if_step : List Row → Rel → Expr ℕ → Expr ℕ → Config → Step
if_step rs n a b m = choose n a b (suc m.frame.row) (suc (closing rs m.frame.row)) m

-- back to the caller, whose x gets the result v
unfoldable pub back_step : Program → ℕ → Heap → List Frame → Step
back_step P v h [] = done
back_step P v h (C ∷ Cs) =
    on (record { heap = h; frame = advance (bind (target_of (row_numbered P C.row).stmt) v C); callers = Cs })

-- RUNS

pub record Outcome : Type 0 where
  pub ending : Ending
  pub line : ℕ
  pub steps : ℕ
  pub values : List ℕ

unfoldable pub main_frame : Frame → List Frame → Frame
main_frame F [] = F
main_frame F (C ∷ Cs) = main_frame C Cs

unfoldable pub ends : Program → Ending → ℕ → Config → Outcome
ends P e n m =
    record {
      ending = e;
      line = (row_numbered P m.frame.row).line;
      steps = n;
      values = take values_shown (drop first_local (main_frame m.frame m.callers).values);
    }

-- "A stopped step is not counted."
unfoldable pub go_on : Program → Step → ℕ → Config → (Config → Outcome) → Outcome
go_on P (on m') n m k = k m'
go_on P (stop s) n m k = ends P (stopped s) n m
go_on P done n m k = ends P finished (suc n) m

module _ (room : Room) (P : Program) where
  unfoldable pub simple_step : Simple → Config → Step
  simple_step (set x f y) m = set_step x f y m
  simple_step (assign x e) m = assign_step x e m
  simple_step (compute o x y z) m = compute_step o x y z m
  simple_step (new x c) m = new_step room x (get_or P.classes c []) m
  simple_step (call x y n z) m = call_step y (method_numbered P n) z m
  simple_step (assert φ) m = pass_step m
  simple_step (release φ) m = pass_step m
  simple_step (open_chain y x f) m = assign_step y (path x f) m
  simple_step (shut_chain x f) m = pass_step m

  unfoldable pub step_at : Stmt → Config → Step
  step_at (simple p) m = simple_step p m
  step_at (return x) m = back_step P (value_of m.frame x) m.heap m.callers
  step_at (if n a b) m = if_step P.rows n a b m
  step_at else m = jump_step (closing P.rows m.frame.row) m
  step_at (join φ) m = pass_step m
  step_at (loop n a b φ) m = if_step P.rows n a b m
  step_at again m = jump_step (loop_of P.rows m.frame.row) m
  step_at end m = back_step P (value_of m.frame result_variable) m.heap m.callers

  -- "Each statement line is one step"
  unfoldable pub step : Config → Step
  step m = step_at (row_numbered P m.frame.row).stmt m

  -- at most k steps more, after n: "A run tests 21 before each step."
  unfoldable pub run : ℕ → ℕ → Config → Outcome
  run zero n m = ends P steps_taken n m
  run (suc k) n m = go_on P (step m) n m (λ m'. run k (suc n) m')

-- "from the empty heap and main's frame"
unfoldable pub start : Program → Config
start P = record { heap = []; frame = record { values = entry_values 0 0; row = P.main }; callers = [] }

unfoldable pub run_program : Room → Program → ℕ → Outcome
run_program room P k = run room P k 0 (start P)

-- the same outcome, as the full machine says it
unfoldable pub outcome_of : Outcome → Machine.Outcome
outcome_of o = record { ending = ending_of o.ending; line = o.line; steps = o.steps; values = o.values }

-- Everything above computes where this unfolds.
unfoldable pub opened : Unit {0}
unfolding stop_of ending_of value_of jump advance bind moved value pass_step jump_step set_step assign_step compute_step new_step call_step choose if_step back_step main_frame ends go_on simple_step step_at step run start run_program outcome_of
opened = tt
