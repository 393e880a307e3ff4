-- The machine: heap, frames and sets of locations, evaluation, each step, and a run of so many steps.
use Rattle.std.specs.Prelude.{Bool, true, false, not, cond, ◌&&◌, List, [], ◌∷◌, ◌++◌, map, ℕ, zero, suc, pred, ◌+◌, ◌-◌, ◌%◌, eqb, ltb, leb, length, get_or, replicate, take, drop}
use Rattle.rules.specs.Base.{Try, ok, no, ◌>>=◌, ◌>>◌, check, update}
use Rattle.rules.specs.Limits.{most_locals, most_frames, values_shown}
use Rattle.rules.specs.Answers.{Stop, Ending, finished, steps_taken, stopped, heap_full, frames_full, permission_missing, null_followed, formula_false, overflow}
use Rattle.rules.specs.Syntax.{Rel, Permit, Expr, Formula, Operation, Simple, Stmt, Row, Field, Method, Program, no_row, row_numbered, method_numbered, first_local, result_variable, words, sign, offset}
use Rattle.rules.specs.Syntax.{eq, ne, num, null, var, path, acc, read, chain, own, cmp, sum, difference, set, assign, compute, new, call, return, assert, release, open_chain, shut_chain, simple, if, else, join, loop, again, end}

-- HEAP AND FRAMES

-- A value is 32 bits: a number, or an object's number from 1, with 0 for null. A field of an object: its name and value.
pub record Cell : Type 0 where
  pub name : ℕ
  pub value : ℕ

-- "Objects are numbered as made": the first is object 1
abbrev pub Heap : Type 0
Heap = List (List Cell)

-- "locations (object, field)"
pub record Location : Type 0 where
  pub object : ℕ
  pub field : ℕ

-- "A frame has values and a set A of locations"; W8: "a location now has 0, 1 or 2 halves with each frame": A lists them half by half.
-- row: the number of the row that it does next
pub record Frame : Type 0 where
  pub values : List ℕ
  pub held : List Location
  pub row : ℕ
  pub ensures : Formula ℕ

-- the frame that runs and its callers, the nearest first, each at its `call` line; main's is the last
pub record Config : Type 0 where
  pub heap : Heap
  pub frame : Frame
  pub callers : List Frame

unfoldable pub eq_location : Location → Location → Bool
eq_location p q = eqb p.object q.object && eqb p.field q.field

-- how many halves of p there are in a set
unfoldable pub halves : List Location → Location → ℕ
halves [] p = 0
halves (q ∷ A) p = let r : ℕ = halves A p in cond (eq_location p q) (suc r) r

-- a set less one half of p
unfoldable pub less_one : Location → List Location → List Location
less_one p [] = []
less_one p (q ∷ A) = let r : List Location = less_one p A in cond (eq_location p q) A (q ∷ r)

-- the second set less the first, half by half
unfoldable pub without : List Location → List Location → List Location
without [] A = A
without (p ∷ ps) A = without ps (less_one p A)

unfoldable pub value_in : List Cell → ℕ → ℕ
value_in [] f = 0
value_in (c ∷ cs) f = let r : ℕ = value_in cs f in cond (eqb c.name f) c.value r

-- the object with this number
unfoldable pub object : Heap → ℕ → List Cell
object h zero = []
object h (suc i) = get_or h i []

-- the value of a field
unfoldable pub value_at : Heap → ℕ → ℕ → ℕ
value_at h o f = value_in (object h o) f

unfoldable pub store_in : ℕ → ℕ → List Cell → List Cell
store_in f v [] = record { name = f; value = v } ∷ []
store_in f v (c ∷ cs) =
    let r : List Cell = store_in f v cs in cond (eqb c.name f) (record { name = f; value = v } ∷ cs) (c ∷ r)

-- document 001's H[o ↦ [f ↦ v]]
unfoldable pub store : Heap → ℕ → ℕ → ℕ → Heap
store h zero f v = h
store h (suc i) f v = update [] h i (store_in f v (get_or h i []))

unfoldable pub fields_in : Heap → ℕ
fields_in [] = 0
fields_in (o ∷ h) = length o + fields_in h

unfoldable pub value_of : Frame → ℕ → ℕ
value_of F x = get_or F.values x 0

-- EVALUATION

-- the location of `x.f`, with n halves of it in A beside those taken: a null is 25, "a location not in A or already taken" 24
unfoldable pub locate : Frame → List Location → ℕ → ℕ → ℕ → Try Stop Location
locate F taken n x f =
    let p : Location = record { object = value_of F x; field = f } in
    check (not (eqb (value_of F x) 0)) null_followed
    >> (check (leb (n + halves taken p) (halves F.held p)) permission_missing >> ok p)

-- "reading a path needs its location in A"; W8: "Reading needs one half"
unfoldable pub value : Heap → Frame → Expr ℕ → Try Stop ℕ
value h F (num n) = ok n
value h F null = ok 0
value h F (var x) = ok (value_of F x)
value h F (path x f) = locate F [] 1 x f >>= λ p. ok (value_at h p.object f)

unfoldable pub compared : Rel → ℕ → ℕ → Bool
compared eq v w = eqb v w
compared ne v w = not (eqb v w)

-- W9: going by f from object o: "holds if going by f from x reaches null and every location passed is held whole; its footprint is
-- those. The walk stops with 26 at a location that it has passed itself (a ring), and with 24 at one not held whole or taken by an
-- earlier atom." It passes at most n locations, n the count of halves that the frame holds: one more would not be held whole.
unfoldable pub walk : Heap → Frame → List Location → ℕ → ℕ → ℕ → List Location → Try Stop (List Location)
walk h F taken f zero o passed = cond (eqb o 0) (ok passed) (no permission_missing)
walk h F taken f (suc n) o passed =
    let p : Location = record { object = o; field = f } in
    let r : Try Stop (List Location) =
    check (eqb (halves passed p) 0) formula_false
    >> (check (leb 2 (halves F.held p) && eqb (halves taken p) 0) permission_missing
    >> walk h F taken f n (value_at h o f) (p ∷ passed)) in
    cond (eqb o 0) (ok passed) r

-- both halves of each location of the walk
unfoldable pub take_walk : Heap → Frame → ℕ → ℕ → List Location → Try Stop (List Location)
take_walk h F f o taken = walk h F taken f (length F.held) o [] >>= λ ws. ok (ws ++ (ws ++ taken))

-- W8: "`acc` is both" halves, `read` one
unfoldable pub take_halves : Frame → ℕ → ℕ → ℕ → List Location → Try Stop (List Location)
take_halves F n x f taken = locate F taken n x f >>= λ p. ok (replicate n p ++ taken)

-- what an atom takes, beside what is taken
unfoldable pub take_share : Heap → Frame → Permit → ℕ → ℕ → List Location → Try Stop (List Location)
take_share h F acc x f taken = take_halves F 2 x f taken
take_share h F read x f taken = take_halves F 1 x f taken
take_share h F chain x f taken = take_walk h F f (value_of F x) taken

-- "Formula atoms go in order, of two sides the left first: `acc` of a null is 25, of a location not in A or already taken in this
-- formula 24; reading likewise, over the whole A; a false `eq` or `ne` is 26." The result is what was taken, the last first.
unfoldable pub take_from : Heap → Frame → Formula ℕ → List Location → Try Stop (List Location)
take_from h F [] taken = ok taken
take_from h F (own k x f ∷ φ) taken = take_share h F k x f taken >>= λ A. take_from h F φ A
take_from h F (cmp n a b ∷ φ) taken = do
  v ← value h F a
  w ← value h F b
  check (compared n v w) formula_false
  take_from h F φ taken

-- "A formula's footprint is the locations that its `acc` atoms take."
unfoldable pub footprint : Heap → Frame → Formula ℕ → Try Stop (List Location)
footprint h F φ = take_from h F φ []

-- FRAMES THAT CHANGE

unfoldable pub jump : ℕ → Frame → Frame
jump i F = record { values = F.values; held = F.held; row = i; ensures = F.ensures }

-- on to the next line
unfoldable pub advance : Frame → Frame
advance F = jump (suc F.row) F

unfoldable pub bind : ℕ → ℕ → Frame → Frame
bind x v F = record { values = update 0 F.values x v; held = F.held; row = F.row; ensures = F.ensures }

unfoldable pub holding : List Location → Frame → Frame
holding A F = record { values = F.values; held = A; row = F.row; ensures = F.ensures }

unfoldable pub with_frame : Config → Frame → Config
with_frame m F = record { heap = m.heap; frame = F; callers = m.callers }

-- BRANCHES AND LOOPS

-- the depth after a row, counted in further branches and loops
unfoldable pub depth_after : Stmt → ℕ → ℕ
depth_after (simple p) d = d
depth_after (return x) d = d
depth_after (if n a b) d = suc d
depth_after else d = d
depth_after (join φ) d = pred d
depth_after (loop n a b φ) d = suc d
depth_after again d = pred d
depth_after end d = d

unfoldable pub closes : Stmt → Bool
closes (simple p) = false
closes (return x) = false
closes (if n a b) = false
closes else = true
closes (join φ) = true
closes (loop n a b φ) = false
closes again = true
closes end = false

-- of the rows from number j on, the first that closes a part and is not in a further branch or loop
unfoldable pub seek : ℕ → ℕ → List Row → ℕ
seek d j [] = j
seek d j (r ∷ rs) = let k : ℕ = seek (depth_after r.stmt d) (suc j) rs in cond (closes r.stmt && eqb d 0) j k

-- the row that closes what row i opens: of an `if` "its `else`", of an `else` "its `join`", of a `loop` its `again`
unfoldable pub closing : List Row → ℕ → ℕ
closing rs i = seek 0 (suc i) (drop (suc i) rs)

-- the rows that opened what is open after row i, the innermost first; an `else` takes the place of its `if`
unfoldable pub open_after : Stmt → ℕ → List ℕ → List ℕ
open_after (simple p) i is = is
open_after (return x) i is = is
open_after (if n a b) i is = i ∷ is
open_after else i is = i ∷ drop 1 is
open_after (join φ) i is = drop 1 is
open_after (loop n a b φ) i is = i ∷ is
open_after again i is = drop 1 is
open_after end i is = is

-- and what is open before row i
unfoldable pub open_at : List Row → ℕ → List ℕ
open_at rs zero = []
open_at rs (suc i) = open_after (get_or rs i no_row).stmt i (open_at rs i)

-- the `loop` that an `again` at row i closes
unfoldable pub loop_of : List Row → ℕ → ℕ
loop_of rs i = get_or (open_at rs i) 0 0

-- one of two rows, by the condition
unfoldable pub choose : Rel → Expr ℕ → Expr ℕ → ℕ → ℕ → Config → Try Stop Config
choose n a b i j m = do
  v ← value m.heap m.frame a
  w ← value m.heap m.frame b
  ok (with_frame m (jump (cond (compared n v w) i j) m.frame))

-- "a false `if` goes to the line after its `else`"
unfoldable pub if_step : List Row → Rel → Expr ℕ → Expr ℕ → Config → Try Stop Config
if_step rs n a b m = choose n a b (suc m.frame.row) (suc (closing rs m.frame.row)) m

-- "`else` (on to its `join`)"
unfoldable pub else_step : List Row → Config → Config
else_step rs m = with_frame m (jump (closing rs m.frame.row) m.frame)

-- "Each arrival at `loop` is a step that tests the invariant, then the condition, and if that is false goes on after `again`"
unfoldable pub loop_step : List Row → Rel → Expr ℕ → Expr ℕ → Formula ℕ → Config → Try Stop Config
loop_step rs n a b φ m = footprint m.heap m.frame φ >>= λ A. if_step rs n a b m

-- "`again` is a step back to it"
unfoldable pub again_step : List Row → Config → Config
again_step rs m = with_frame m (jump (loop_of rs m.frame.row) m.frame)

-- STATEMENTS

-- `x.f` has a new value
unfoldable pub stored : Config → ℕ → ℕ → ℕ → Config
stored m o f v = record { heap = store m.heap o f v; frame = advance m.frame; callers = m.callers }

-- "`set` first tests `acc x f`."; W8: "Reading needs one half, `set` both."
unfoldable pub set_step : ℕ → ℕ → ℕ → Config → Try Stop Config
set_step x f y m = locate m.frame [] 2 x f >>= λ p. ok (stored m p.object f (value_of m.frame y))

unfoldable pub assign_step : ℕ → Expr ℕ → Config → Try Stop Config
assign_step x e m = value m.heap m.frame e >>= λ v. ok (with_frame m (advance (bind x v m.frame)))

-- the sum or difference of two numbers, plus 2^32
unfoldable pub raised : Operation → ℕ → ℕ → ℕ
raised sum v w = offset v + offset w
raised difference v w = offset v + (words - offset w)

-- does the number that so comes to n fit "32 bits signed"?
unfoldable pub in_range : ℕ → Bool
in_range n = leb sign n && ltb n (words + sign)

-- "A result beyond 32 bits signed stops the run"
unfoldable pub computed : Operation → ℕ → ℕ → Try Stop ℕ
computed o v w = let n : ℕ = raised o v w in check (in_range n) overflow >> ok (n % words)

-- "give the int x the sum or difference of the int variables y and z"
unfoldable pub compute_step : Operation → ℕ → ℕ → ℕ → Config → Try Stop Config
compute_step o x y z m =
    computed o (value_of m.frame y) (value_of m.frame z) >>= λ v. ok (with_frame m (advance (bind x v m.frame)))

-- a new object: each field null or 0; its locations are the running frame's, whole
unfoldable pub new_cell : Field → Cell
new_cell f = record { name = f.name; value = 0 }

-- both halves of each location of object o
unfoldable pub whole_of : ℕ → List Cell → List Location
whole_of o [] = []
whole_of o (c ∷ cs) =
    let p : Location = record { object = o; field = c.name } in
    let r : List Location = whole_of o cs in
    cond (eqb (halves r p) 0) (p ∷ p ∷ r) r

unfoldable pub grown : Config → ℕ → List Cell → Config
grown m x cells =
    let o : ℕ = suc (length m.heap) in
    record {
      heap = m.heap ++ (cells ∷ []);
      frame = advance (bind x o (holding (m.frame.held ++ whole_of o cells) m.frame));
      callers = m.callers;
    }

-- the heap's two limits
pub record Room : Type 0 where
  pub objects : ℕ
  pub fields : ℕ

-- "22 only where `new` would pass 256 objects or 1,024 fields"
unfoldable pub new_step : Room → ℕ → List Field → Config → Try Stop Config
new_step room x fs m =
    check (ltb (length m.heap) room.objects && leb (fields_in m.heap + length fs) room.fields) heap_full
    >> ok (grown m x (map new_cell fs))

-- "Variables and `result` start as null or 0."
unfoldable pub entry_values : ℕ → ℕ → List ℕ
entry_values this w = this ∷ w ∷ replicate (suc most_locals) 0

-- the frame of a call of M on y and z, before it is known what it is handed: it reads requires over the caller's set
unfoldable pub call_frame : Config → Method → ℕ → ℕ → Frame
call_frame m M y z =
    record {
      values = entry_values (value_of m.frame y) (value_of m.frame z);
      held = m.frame.held;
      row = M.first;
      ensures = M.ensures;
    }

-- "the new frame's A is the footprint of requires, which the caller loses"
unfoldable pub entered : Config → Frame → List Location → Config
entered m G A =
    record { heap = m.heap; frame = holding A G; callers = holding (without A m.frame.held) m.frame ∷ m.callers }

-- "`call`: null receiver, then requires, then frames full"
unfoldable pub call_step : ℕ → Method → ℕ → Config → Try Stop Config
call_step y M z m = do
  check (not (eqb (value_of m.frame y) 0)) null_followed
  A ← footprint m.heap (call_frame m M y z) M.requires
  check (ltb (suc (length m.callers)) most_frames) frames_full
  ok (entered m (call_frame m M y z) A)

-- the x of the `call` at which a caller stands
unfoldable pub target_of : Stmt → ℕ
target_of (simple p) =
    elim p [
      | call x y n z ↦ x
      | set x f y ↦ 0
      | assign x e ↦ 0
      | compute o x y z ↦ 0
      | new x c ↦ 0
      | assert φ ↦ 0
      | release φ ↦ 0
      | open_chain y z f ↦ 0
      | shut_chain z f ↦ 0
    ]
target_of (return x) = 0
target_of (if n a b) = 0
target_of else = 0
target_of (join φ) = 0
target_of (loop n a b φ) = 0
target_of again = 0
target_of end = 0

-- the statement that a frame does next
unfoldable pub statement_of : Program → Frame → Stmt
statement_of P F = (row_numbered P F.row).stmt

-- "`end`: ensures, then the caller gains its footprint, and x the result; the rest of that A is lost."
unfoldable pub returned : Program → Config → Frame → List Frame → List Location → Config
returned P m C Cs A =
    record {
      heap = m.heap;
      frame = advance (bind (target_of (statement_of P C)) (value_of m.frame result_variable) (holding (C.held ++ A) C));
      callers = Cs;
    }

-- "`join` tests its formula", as `assert` does
unfoldable pub assert_step : Formula ℕ → Config → Try Stop Config
assert_step φ m = footprint m.heap m.frame φ >>= λ A. ok (with_frame m (advance m.frame))

unfoldable pub release_step : Formula ℕ → Config → Try Stop Config
release_step φ m =
    footprint m.heap m.frame φ >>= λ A.
    ok (with_frame m (advance (holding (without A m.frame.held) m.frame)))

-- W9: "The machine tests the same at these lines, in that order; x null is 25."
unfoldable pub open_step : ℕ → ℕ → ℕ → Config → Try Stop Config
open_step y x f m = do
  let o : ℕ = value_of m.frame x
  check (not (eqb o 0)) null_followed
  A ← take_walk m.heap m.frame f o []
  ok (with_frame m (advance (bind y (value_at m.heap o f) m.frame)))

-- the value of `x.f` is read, the chain taken from there, then `x.f` whole
unfoldable pub shut_step : ℕ → ℕ → Config → Try Stop Config
shut_step x f m = do
  v ← value m.heap m.frame (path x f)
  A ← take_walk m.heap m.frame f v []
  p ← locate m.frame A 2 x f
  ok (with_frame m (advance m.frame))

-- STEPS AND RUNS

-- the state after a step; why it is not done; or main's `end` is done
pub data Step : Type 0 where
  on : Config → Step
  stop : Stop → Step
  done : Step

unfoldable pub took : Try Stop Config → Step
took (ok m) = on m
took (no s) = stop s

unfoldable pub end_step : Program → Config → List Frame → Step
end_step P m [] = done
end_step P m (C ∷ Cs) = took (footprint m.heap m.frame m.frame.ensures >>= λ A. ok (returned P m C Cs A))

-- "`return x` sets the result, tests ensures and goes back to the caller in one step."
unfoldable pub return_step : Program → ℕ → Config → Step
return_step P x m = end_step P (with_frame m (bind result_variable (value_of m.frame x) m.frame)) m.callers

-- what a run ends with: how, the line of the row that is next (done last, where main's `end` is done), the steps taken, and
-- main's variables
pub record Outcome : Type 0 where
  pub ending : Ending
  pub line : ℕ
  pub steps : ℕ
  pub values : List ℕ

unfoldable pub main_frame : Frame → List Frame → Frame
main_frame F [] = F
main_frame F (C ∷ Cs) = main_frame C Cs

unfoldable pub ends : Program → Ending → ℕ → Config → Outcome
ends P e n m =
    record {
      ending = e;
      line = (row_numbered P m.frame.row).line;
      steps = n;
      values = take values_shown (drop first_local (main_frame m.frame m.callers).values);
    }

-- "A stopped step is not counted."
unfoldable pub go_on : Program → Step → ℕ → Config → (Config → Outcome) → Outcome
go_on P (on m') n m k = k m'
go_on P (stop s) n m k = ends P (stopped s) n m
go_on P done n m k = ends P finished (suc n) m

module _ (room : Room) (P : Program) where
  unfoldable pub simple_step : Simple → Config → Try Stop Config
  simple_step (set x f y) m = set_step x f y m
  simple_step (assign x e) m = assign_step x e m
  simple_step (compute o x y z) m = compute_step o x y z m
  simple_step (new x c) m = new_step room x (get_or P.classes c []) m
  simple_step (call x y n z) m = call_step y (method_numbered P n) z m
  simple_step (assert φ) m = assert_step φ m
  simple_step (release φ) m = release_step φ m
  simple_step (open_chain y x f) m = open_step y x f m
  simple_step (shut_chain x f) m = shut_step x f m

  unfoldable pub step_at : Stmt → Config → Step
  step_at (simple p) m = took (simple_step p m)
  step_at (return x) m = return_step P x m
  step_at (if n a b) m = took (if_step P.rows n a b m)
  step_at else m = on (else_step P.rows m)
  step_at (join φ) m = took (assert_step φ m)
  step_at (loop n a b φ) m = took (loop_step P.rows n a b φ m)
  step_at again m = on (again_step P.rows m)
  step_at end m = end_step P m m.callers

  -- "Each statement line is one step"
  unfoldable pub step : Config → Step
  step m = step_at (statement_of P m.frame) m

  -- at most k steps more, after n: "A run tests 21 before each step."
  unfoldable pub run : ℕ → ℕ → Config → Outcome
  run zero n m = ends P steps_taken n m
  run (suc k) n m = go_on P (step m) n m (λ m'. run k (suc n) m')

-- "from the empty heap and main's frame"
unfoldable pub start : Program → Config
start P = record { heap = []; frame = record { values = entry_values 0 0; held = []; row = P.main; ensures = [] }; callers = [] }

unfoldable pub run_program : Room → Program → ℕ → Outcome
run_program room P k = run room P k 0 (start P)

-- Everything above computes where this unfolds.
unfoldable pub opened : Unit {0}
unfolding eq_location halves less_one without value_in object value_at store_in store fields_in value_of locate value compared walk take_walk
    take_halves take_share take_from footprint jump advance bind holding with_frame depth_after closes seek closing open_after open_at loop_of
    choose if_step else_step loop_step again_step stored set_step assign_step raised in_range computed compute_step new_cell whole_of grown
    new_step entry_values call_frame entered call_step target_of statement_of returned assert_step release_step open_step shut_step took end_step
    return_step main_frame ends go_on simple_step step_at step run start run_program
opened = tt
