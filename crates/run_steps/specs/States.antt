-- Which state of the definitions the stores and the counters stand for, and what a step of the code does.
use Rattle.std.specs.Prelude.{◌≡◌, true, cond, List, [], ◌∷◌, ◌⊎◌, ℕ, suc, ◌+◌, ◌-◌, ◌*◌, ◌≤◌, ◌<◌, T, eqb, length, Option, Some, None, Result, Ok, Err}
use Rattle.std.proofs.Math.Option.{some}
use Rattle.rules.specs.Limits.{heap_objects, heap_fields, most_frames}
use Rattle.rules.specs.Base.{ok, any}
use Rattle.rules.specs.Grammar.{Statement, Call, If, Else, End, Loop, Again, Open, Shut, statement_number}
use Rattle.rules.specs.Machine.{Heap, Frame, Location, Config, Step, halves, fields_in, value_at, object, value_of, on, stop, done, took}
use Rattle.rules.specs.Machine.{set_step, assign_step, compute_step, assert_step, release_step, open_step, shut_step, if_step, else_step, loop_step, again_step}
use Rattle.rules.specs.declared.Machine.{Machine}
use Rattle.tables.specs.Layout.{frame_variables}
use Rattle.tables.specs.Decode.{row_count, operation_of, kind_at, x_at, y_at, z_at, member_at, first_atom_at, formula_at, atom_place, byte_at, rel_of, left_at, right_at, all_rows, method_count, ensures_at, field_count_at}
use Rattle.tables.specs.Tables.{Tables}
use Rattle.tables.specs.Stores.{SameTables}
use Rattle.run_heap.specs.declared.Fault.{Fault}
use Rattle.run_heap.specs.Views.{frame_at, variable_at, saved_holder, saved_row, method_of, cell_value, halves_at, class_in, first_in, cell_of, halves_of, spot, view_of, whole, ObjectFits, stop_of}
use Rattle.run_heap.specs.Chains.{walk_in}

-- so many objects with so many fields stand for the heap; no half of a cell is with a number above `holders`
pub record HeapIs (w : List ℕ) (objects fields holders : ℕ) (h : Heap) : Type 0 where
  pub count : length h ≡ objects
  pub fields_count : fields_in h ≡ fields
  pub most_objects : objects ≤ heap_objects
  pub most_fields : fields ≤ heap_fields
  pub fit : (i : ℕ) → i < objects → ObjectFits w fields i
  pub apart : (i j : ℕ) → i < j → j < objects → first_in w i + field_count_at w (class_in w i) ≤ first_in w j
  pub value : (o f k : ℕ) → cell_of w objects o f ≡ some k → value_at h o f ≡ cell_value w k
  pub has : (o f k : ℕ) → cell_of w objects o f ≡ some k → T (any (λ c. eqb c.name f) (object h o))
  pub marks : (k n : ℕ) → k < fields → holders < n → halves_at w n k ≡ 0

-- the frame at b, which holds by a number and does a row next
pub record FrameIs (w : List ℕ) (objects b number row : ℕ) (F : Frame) : Type 0 where
  pub size : length F.values ≡ frame_variables
  pub values : (x : ℕ) → x < frame_variables → value_of F x ≡ variable_at w b x
  pub row_is : F.row ≡ row
  pub row_fits : row < row_count w
  pub held : (p : Location) → halves F.held p ≡ halves_of w objects number p
  pub numbered : 1 ≤ number

-- the formula that the `end` of frame n tests; main has none
abbrev pub EnsuresIs : List ℕ → ℕ → Frame → Type 0
EnsuresIs w n F = (n ≡ 0) ⊎ ((method_of w n < method_count w) × (F.ensures ≡ ensures_at w (method_of w n)))

-- frame n has called; its number is below that of the frame it called
pub record CallerIs (w : List ℕ) (objects n bound : ℕ) (F : Frame) : Type 0 where
  pub frame : FrameIs w objects (frame_at n) (saved_holder w n) (saved_row w n) F
  pub below : saved_holder w n < bound
  pub at_call : kind_at w (saved_row w n) ≡ statement_number Call
  pub ensures : EnsuresIs w n F

unfoldable pub CallersAre : List ℕ → ℕ → ℕ → List Frame → Type 0
CallersAre w objects bound [] = Unit {0}
CallersAre w objects bound (F ∷ Fs) =
    CallerIs w objects (length Fs) bound F × CallersAre w objects (saved_holder w (length Fs)) Fs

-- A number is given out at each call, and a call's frame is in use or has ended: so the numbers fit 32 bits.
pub record Represents (w : List ℕ) (c : Machine) (m : Config) : Type 0 where
  pub tables : Tables w
  pub heap : HeapIs w c.objects c.fields c.holders m.heap
  pub frames : c.frames ≡ suc (length m.callers)
  pub most : c.frames ≤ most_frames
  pub frame : FrameIs w c.objects (frame_at (length m.callers)) c.holder c.row m.frame
  pub ensures : EnsuresIs w (length m.callers) m.frame
  pub callers : CallersAre w c.objects c.holder m.callers
  pub last : c.holder ≤ c.holders
  pub given : 2 * c.holders ≤ c.steps + c.frames + 1

-- STEPS

-- what became of a step: on to the next, or none after main's `end`; or why it is not done
abbrev pub Turn : Type 0
Turn = Result (Option Machine) Fault

-- the state m, in which the definition does s, is left as the code's answer says
pub record Goes (w : List ℕ) (c d : Machine) (s : Step) : Type 0 where
  pub next : Config
  pub is_next : s ≡ on next
  pub represents : Represents w d next
  pub counted : d.steps ≡ c.steps + 1

abbrev pub Follows : List ℕ → Machine → Turn → Config → Step → Type 0
Follows w c (Ok (Some d)) m s = Goes w c d s
Follows w c (Err f) m s = (s ≡ stop (stop_of f)) × Represents w c m
Follows w c (Ok None) m s = (s ≡ done) × Represents w c m

-- a step by the code from w and c, which leaves w' and answers r, is the definition's in every state that w and c stand for
pub record Does (w : List ℕ) (c : Machine) (w' : List ℕ) (r : Turn) (f : Config → Step) : Type 0 where
  pub tables : SameTables w w'
  pub follows : (m : Config) → Represents w c m → Follows w' c r m (f m)

-- at a row, after so many steps
abbrev pub at_row : Machine → ℕ → ℕ → Machine
at_row c row steps =
    record {
      objects = c.objects;
      fields = c.fields;
      frames = c.frames;
      row = row;
      holder = c.holder;
      holders = c.holders;
      steps = steps;
    }

-- one step more, on to a row
abbrev pub stepped : Machine → ℕ → Machine
stepped c row = at_row c row (c.steps + 1)

-- the greatest number of 32 bits, to which a counter can rise
abbrev pub most_count : ℕ
most_count = 4294967295

-- a state is represented, and a further step can be counted
pub record CanStep (w : List ℕ) (c : Machine) : Type 0 where
  pub state : Config
  pub represents : Represents w c state
  pub more : c.steps < most_count

-- ROWS

-- the row is of this kind
abbrev pub AtKind : List ℕ → Machine → Statement → Type 0
AtKind w c s = kind_at w c.row ≡ statement_number s

abbrev pub NotEnd : List ℕ → Machine → Type 0
NotEnd w c = AtKind w c End → ⊥

-- it goes on by a condition, or to its target alone
abbrev pub Chooses : List ℕ → Machine → Type 0
Chooses w c = AtKind w c If ⊎ AtKind w c Loop

abbrev pub Jumps : List ℕ → Machine → Type 0
Jumps w c = AtKind w c Else ⊎ AtKind w c Again

-- WHAT THE DEFINITIONS DO at the row, by its operands

abbrev pub set_here : List ℕ → Machine → Config → Step
set_here w c m = took (set_step (x_at w c.row) (member_at w c.row) (y_at w c.row) m)

abbrev pub let_here : List ℕ → Machine → Config → Step
let_here w c m = took (assign_step (x_at w c.row) (right_at w (first_atom_at w c.row)) m)

abbrev pub compute_here : List ℕ → Machine → Config → Step
compute_here w c m = took (compute_step (operation_of (kind_at w c.row)) (x_at w c.row) (y_at w c.row) (z_at w c.row) m)

abbrev pub assert_here : List ℕ → Machine → Config → Step
assert_here w c m = took (assert_step (formula_at w c.row) m)

abbrev pub release_here : List ℕ → Machine → Config → Step
release_here w c m = took (release_step (formula_at w c.row) m)

abbrev pub open_here : List ℕ → Machine → Config → Step
open_here w c m = took (open_step (x_at w c.row) (y_at w c.row) (member_at w c.row) m)

abbrev pub shut_here : List ℕ → Machine → Config → Step
shut_here w c m = took (shut_step (x_at w c.row) (member_at w c.row) m)

-- `open` where the location of `x.f` is held whole: the cell k
pub record Opening (w : List ℕ) (c : Machine) (f k : ℕ) : Type 0 where
  pub ready : CanStep w c
  pub at_open : AtKind w c Open
  pub field : f ≡ member_at w c.row
  pub cell : spot w (view_of c) whole (y_at w c.row) f ≡ ok k

-- `shut` where half of it is
pub record Shutting (w : List ℕ) (c : Machine) (f k : ℕ) : Type 0 where
  pub ready : CanStep w c
  pub at_shut : AtKind w c Shut
  pub field : f ≡ member_at w c.row
  pub cell : spot w (view_of c) 1 (x_at w c.row) f ≡ ok k

-- and the chain of its value too
pub record Walked (w : List ℕ) (c : Machine) (k : ℕ) : Type 0 where
  pub shutting : Shutting w c (member_at w c.row) k
  pub last : ℕ
  pub walked : walk_in w (view_of c) (λ _. true) (member_at w c.row) (suc c.objects) (cell_value w k) 0 ≡ ok last

-- with the condition that is the atom a
abbrev pub if_on : List ℕ → ℕ → Config → Step
if_on w a m = took (if_step (all_rows w) (rel_of (byte_at w (atom_place a))) (left_at w a) (right_at w a) m)

abbrev pub if_here : List ℕ → Machine → Config → Step
if_here w c = if_on w (first_atom_at w c.row)

-- a: its condition
abbrev pub loop_on : List ℕ → ℕ → Machine → Config → Step
loop_on w a c m =
    took (loop_step (all_rows w) (rel_of (byte_at w (atom_place a))) (left_at w a) (right_at w a) (formula_at w c.row) m)

abbrev pub loop_here : List ℕ → Machine → Config → Step
loop_here w c = loop_on w (first_atom_at w c.row - 1) c

abbrev pub jump_here : List ℕ → Machine → Config → Step
jump_here w c m = on (cond (eqb (kind_at w c.row) (statement_number Else)) (else_step (all_rows w) m) (again_step (all_rows w) m))
