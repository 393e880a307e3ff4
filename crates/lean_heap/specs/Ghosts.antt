-- The lean machine's stores: which state they stand for. They are the full machine's with what says who holds left out; the full stores are a
-- ghost, of which the code has no byte.
use Rattle.std.specs.Prelude.{◌≡◌, List, ◌⊎◌, ℕ, ◌+◌, ◌-◌, ◌≤◌, ◌<◌, length, Option, Some, None, Result, Ok, Err}
use Rattle.std.proofs.Math.Option.{some}
use Rattle.rules.specs.Limits.{heap_objects, heap_fields}
use Rattle.rules.specs.Answers as Answers
use Rattle.rules.specs.Syntax.{Expr, num, null, var, path}
use Rattle.rules.specs.Grammar.{Statement, statement_number}
use Rattle.rules.specs.Lean as Lean
use Rattle.rules.specs.Machine.{Config, Step, on, stop, done, step}
use Rattle.rules.specs.Calls.{whole_heap}
use Rattle.rules.specs.declared.Machine.{Machine}
use Rattle.soundness.specs.Endings.{MayStop}
use Rattle.tables.specs.Layout.{most_names, frame_variables, holders_at, objects_at, frames_at}
use Rattle.tables.specs.declared.Expr as Tables
use Rattle.tables.specs.Decode.{byte_at, kind_at, program_in}
use Rattle.tables.specs.Tables.{Tables, place_at}
use Rattle.tables.specs.Stores.{SameTables}
use Rattle.run_heap.specs.Views.{frame_holder, frame_row, frame_method, frame_at, variable_at, cell_value, class_in, first_in, cell_of, ObjectFits}
use Rattle.run_steps.specs.States.{Represents, most_count}
use Rattle.lean_heap.specs.declared.Counters.{Counters}
use Rattle.lean_heap.specs.declared.Stop.{Stop}

-- THE GHOST

-- the bytes that the lean machine reads: all but holders, and of each frame its variables and its row
abbrev pub Seen : ℕ → Type 0
Seen j =
    (j < holders_at) ⊎ ((objects_at ≤ j) × (j < frames_at))
    ⊎ ((n : ℕ) × (r : ℕ) × (j ≡ frame_at n + r) × ((r < frame_holder) ⊎ ((frame_row ≤ r) × (r < frame_method))))

-- w is v without what says who holds
pub record Bare (v w : List ℕ) : Type 0 where
  pub size : length w ≡ length v
  pub bytes : (j : ℕ) → Seen j → byte_at w j ≡ byte_at v j

-- the full machine's counters
abbrev pub full : Counters → ℕ → ℕ → Machine
full c holder holders =
    record {
      objects = c.objects;
      fields = c.fields;
      frames = c.frames;
      row = c.row;
      holder = holder;
      holders = holders;
      steps = c.steps;
    }

pub record Stands (w : List ℕ) (c : Counters) (m : Config) : Type 0 where
  pub ghost : List ℕ
  pub holder : ℕ
  pub holders : ℕ
  pub represents : Represents ghost (full c holder holders) m
  pub bare : Bare ghost w
  pub base : c.base ≡ frame_at (c.frames - 1)

-- STEPS

-- a step as those of an accepted program are: it does not stop with 24, 25 or 26
abbrev pub Unstuck : Step → Type 0
Unstuck (on m) = Unit {0}
Unstuck (stop s) = MayStop s
Unstuck done = Unit {0}

unfoldable pub stop_in : Stop → Lean.Stop
stop_in Stop.HeapFull = Lean.Stop.heap_full
stop_in Stop.FramesFull = Lean.Stop.frames_full
stop_in Stop.Overflow = Lean.Stop.overflow

-- the row of the table that it is
unfoldable pub stop_of : Stop → Answers.Stop
stop_of s = Lean.stop_of (stop_in s)

pub record Goes (w : List ℕ) (c d : Counters) (s : Step) : Type 0 where
  pub next : Config
  pub is_next : s ≡ on next
  pub stands : Stands w d next
  pub counted : d.steps ≡ c.steps + 1

-- what became of a step: on to the next, or none after main's `end`; or why it is not done
abbrev pub Turn : Type 0
Turn = Result (Option Counters) Stop

abbrev pub Follows : List ℕ → Counters → Turn → Config → Step → Type 0
Follows w c (Ok (Some d)) m s = Goes w c d s
Follows w c (Err r) m s = (s ≡ stop (stop_of r)) × Stands w c m
Follows w c (Ok None) m s = (s ≡ done) × Stands w c m

-- a step by the code from w and c, which leaves w' and answers r, is the full machine's in every state that w and c stand for and in which
-- that is not stuck
pub record Does (w : List ℕ) (c : Counters) (w' : List ℕ) (r : Turn) : Type 0 where
  pub tables : SameTables w w'
  pub follows :
      (m : Config) → Stands w c m → Unstuck (step whole_heap (program_in w) m) → Follows w' c r m (step whole_heap (program_in w) m)

-- a state stands there in which the next step is not stuck, and can be counted
pub record CanStep (w : List ℕ) (c : Counters) : Type 0 where
  pub state : Config
  pub stands : Stands w c state
  pub unstuck : Unstuck (step whole_heap (program_in w) state)
  pub more : c.steps < most_count

abbrev pub AtKind : List ℕ → Counters → Statement → Type 0
AtKind w c s = kind_at w c.row ≡ statement_number s

-- one step more, on to a row
abbrev pub stepped : Counters → ℕ → Counters
stepped c row = record { objects = c.objects; fields = c.fields; frames = c.frames; base = c.base; row = row; steps = c.steps + 1 }

-- READING, where no test is needed

-- the cell of the field named f of the object o
abbrev pub cell_in : List ℕ → ℕ → ℕ → ℕ
cell_in w o f = first_in w (o - 1) + place_at w (class_in w (o - 1)) f

-- the object is there and has the field
pub record There (w : List ℕ) (o f : ℕ) : Type 0 where
  pub tables : Tables w
  pub objects : ℕ
  pub few : objects ≤ heap_objects
  pub fit : (i : ℕ) → i < objects → ObjectFits w heap_fields i
  pub cell : ℕ
  pub is_cell : cell_of w objects o f ≡ some cell

unfoldable pub value_in : List ℕ → ℕ → Expr ℕ → ℕ
value_in w b (num n) = n
value_in w b null = 0
value_in w b (var x) = variable_at w b x
value_in w b (path x f) = cell_value w (cell_in w (variable_at w b x) f)

-- what reading an expression needs, by the frame at b
abbrev pub Readable : List ℕ → ℕ → Tables.Expr → Type 0
Readable w b (Tables.Expr.Num n) = Unit {0}
Readable w b Tables.Expr.Null = Unit {0}
Readable w b (Tables.Expr.Var x) = x < frame_variables
Readable w b (Tables.Expr.Path x f) = (x < frame_variables) × (f < most_names) × There w (variable_at w b x) f
