-- W13: what is not handed over is not seen. Two states that agree on what the running frame holds, a method's part of a run, and the
-- claim.
use Rattle.std.specs.Prelude.{◌≡◌, cond, List, [], ◌∷◌, ◌++◌, map, ℕ, zero, suc, ◌+◌, ◌-◌, ◌≤◌, ltb}
use Rattle.rules.specs.Answers.{Ending, accepted, finished, steps_taken, stopped}
use Rattle.rules.specs.Syntax.{Program, row_numbered}
use Rattle.rules.specs.Items.{Item}
use Rattle.rules.specs.Reading.{read_text, program}
use Rattle.rules.specs.Machine.{Heap, Cell, Frame, Config, Location, Room, Step, Outcome, on, stop, done, step, run, ends, statement_of, target_of, advance, bind, holding, halves, value_at}
use Rattle.rules.specs.Runs.{depth}

-- TWO STATES

-- "the objects and their classes": of each object the names of its fields
unfoldable pub names_of : List Cell → List ℕ
names_of = map (λ c. c.name)

unfoldable pub classes_of : Heap → List (List ℕ)
classes_of = map names_of

-- the field has one value in both heaps
abbrev pub SameAt : Heap → Heap → Location → Type 0
SameAt h h' p = value_at h' p.object p.field ≡ value_at h p.object p.field

-- "two machine states .. that agree but for the values of fields outside the called frame's permissions, the objects and their
-- classes alike": the called frame is the one that runs. "read shares count as handed over": one half of a location is enough. Of the
-- callers nothing is asked but how many they are.
pub record Agree (m m' : Config) : Type 0 where
  pub frame : m'.frame ≡ m.frame
  pub calls : depth m' ≡ depth m
  pub alike : classes_of m'.heap ≡ classes_of m.heap
  pub permitted : (p : Location) → 1 ≤ halves m.frame.held p → SameAt m.heap m'.heap p

-- A METHOD'S PART OF A RUN

-- how it ends: its `end` or `return` is done, and the caller goes on in this state; or the run ends in it, so, in this state
pub data Leaving : Type 0 where
  left : Config → Leaving
  halted : Ending → Config → Leaving

-- the lines of its steps in order, those of the methods that it calls among them; how many steps they are
pub record Part : Type 0 where
  pub lines : List ℕ
  pub count : ℕ
  pub leaving : Leaving

unfoldable pub no_step : Leaving → Part
no_step l = record { lines = []; count = 0; leaving = l }

unfoldable pub one_more : ℕ → Part → Part
one_more l p = record { lines = l ∷ p.lines; count = suc p.count; leaving = p.leaving }

unfoldable pub line_of : Program → Config → ℕ
line_of P m = (row_numbered P m.frame.row).line

-- d: the calls that are open in it, its own counted. "A stopped step is not counted."
unfoldable pub part_on : Program → Step → ℕ → Config → (Config → Part) → Part
part_on P (on a) d m next = let p : Part = next a in one_more (line_of P m) (cond (ltb (depth a) d) (no_step (left a)) p)
part_on P (stop s) d m next = no_step (halted (stopped s) m)
part_on P done d m next = one_more (line_of P m) (no_step (halted finished m))

module _ (room : Room) (P : Program) where
  unfoldable pub part : ℕ → ℕ → Config → Part
  part d zero m = no_step (halted steps_taken m)
  part d (suc k) m = part_on P (step room P m) d m (λ a. part d k a)

  -- "From the first line of that method to its end, a stop or 21": of the method whose frame runs in m, with k steps allowed. Of main,
  -- which nobody called, it is the whole run.
  unfoldable pub method_part : ℕ → Config → Part
  method_part k m = part (depth m) k m

  -- the run that was allowed k steps, had taken n, and has come through this part of c steps
  unfoldable pub goes_on : ℕ → ℕ → ℕ → Leaving → Outcome
  goes_on k n c (left e) = run room P (k - c) (n + c) e
  goes_on k n c (halted s e) = ends P s (n + c) e

-- THE CLAIM

-- a caller that goes on: its x has the result, and it gains these halves
unfoldable pub resume : Program → Frame → ℕ → List Location → Frame
resume P C r A = advance (bind (target_of (statement_of P C)) r (holding (C.held ++ A) C))

-- the state e is that in which the nearest caller of m has gone on, with this result and these halves
pub record Resumed (P : Program) (r : ℕ) (A : List Location) (m e : Config) : Type 0 where
  pub caller : Frame
  pub others : List Frame
  pub callers : m.callers ≡ caller ∷ others
  pub frame : e.frame ≡ resume P caller r A
  pub rest : e.callers ≡ others

-- "equal results": both hand their callers one result, and the same halves, of fields that have one value in both. Every field that had
-- one value in both heaps at the method's first line has one still; and objects and classes are alike.
pub record SameReturn (P : Program) (m m' e e' : Config) : Type 0 where
  pub result : ℕ
  pub back : List Location
  pub resumed : Resumed P result back m e
  pub resumed' : Resumed P result back m' e'
  pub values_back : (p : Location) → 1 ≤ halves back p → SameAt e.heap e'.heap p
  pub kept : (p : Location) → SameAt m.heap m'.heap p → SameAt e.heap e'.heap p
  pub alike : classes_of e'.heap ≡ classes_of e.heap

-- "the same stop", or 21, or main's `end`: in a frame with the same values, at the same line, and above the callers of the first line as
-- many frames, the same in both
pub record SameHalt (m m' : Config) (s s' : Ending) (e e' : Config) : Type 0 where
  pub stop : s' ≡ s
  pub frame : e'.frame ≡ e.frame
  pub above : List Frame
  pub callers : e.callers ≡ above ++ m.callers
  pub callers' : e'.callers ≡ above ++ m'.callers

abbrev pub LeftAlike : Program → Config → Config → Leaving → Leaving → Type 0
LeftAlike P m m' (left e) (left e') = SameReturn P m m' e e'
LeftAlike P m m' (left e) (halted s' e') = ⊥
LeftAlike P m m' (halted s e) (left e') = ⊥
LeftAlike P m m' (halted s e) (halted s' e') = SameHalt m m' s s' e e'

-- "both shall take the same lines, with equal results, an equal count of steps and the same stop"
pub record SameSeen (P : Program) (m m' : Config) (p p' : Part) : Type 0 where
  pub lines : p'.lines ≡ p.lines
  pub count : p'.count ≡ p.count
  pub leaving : LeftAlike P m m' p.leaving p'.leaving

-- "Take two machine states, with the same number of steps allowed": whether a run reaches them or not, on a heap with any limits
abbrev pub Unseen : Room → Program → Type 0
Unseen room P =
    (m m' : Config) → Agree m m' → (k : ℕ) → SameSeen P m m' (method_part room P k m) (method_part room P k m')

-- a run is the part of the method that runs, and goes on from the state in which that is left
abbrev pub PartOfRun : Room → Program → Type 0
PartOfRun room P =
    (m : Config) (k n : ℕ) → run room P k n m ≡ goes_on room P k n (method_part room P k m).count (method_part room P k m).leaving

-- "This covers trial as well as run": of each text that the reader takes, accepted or not
abbrev pub NotHandedNotSeen : Type 0
NotHandedNotSeen =
    (t : List ℕ) (items : List Item) → read_text t ≡ accepted items → (room : Room) →
    Unseen room (program items) × PartOfRun room (program items)

-- Everything above computes where this unfolds.
unfoldable pub opened : Unit {0}
unfolding names_of classes_of no_step one_more line_of part_on part method_part goes_on resume
opened = tt
