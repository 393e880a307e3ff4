-- W13 for a licensing office: a method's behaviour is a function of its arguments and of what its `requires` hands over, and two
-- catalogues that differ elsewhere give the same result. With it what the source documents say of frames.
use Rattle.std.specs.Prelude.{◌≡◌, List, [], ◌∷◌, ℕ, suc, ◌-◌, ◌≤◌, T}
use Rattle.rules.specs.Base.{ok}
use Rattle.rules.specs.Answers.{accepted}
use Rattle.rules.specs.Syntax.{Expr, Formula, Program, simple, call}
use Rattle.rules.specs.Items.{Item}
use Rattle.rules.specs.Reading.{read_text, check_framed, framed, program}
use Rattle.rules.specs.Machine.{Heap, Frame, Config, Location, Room, on, step, run, ends, statement_of, footprint, holding, halves, value, value_of}
use Rattle.rules.specs.Calls.{check_text, run_text, trial_text, whole_heap, outcome_result}
use Rattle.rules.specs.Runs.{depth, handed_over, Run, CallStep, During}
use Rattle.unseen.specs.Unseen.{classes_of, SameAt, Agree, Leaving, left, halted, method_part, SameSeen}

-- WHERE THE CALLERS AGREE TOO

-- "equal results", also those of the whole run: if it ends in the method's part, it has one answer (number, line, count of steps, main's
-- values); if not, the same caller goes on, at the same line with the same values and halves, under the same callers. n: the steps taken
abbrev pub AnswersAlike : Program → ℕ → Leaving → Leaving → Type 0
AnswersAlike P n (left e) (left e') = (e'.frame ≡ e.frame) × (e'.callers ≡ e.callers)
AnswersAlike P n (left e) (halted s' e') = ⊥
AnswersAlike P n (halted s e) (left e') = ⊥
AnswersAlike P n (halted s e) (halted s' e') = ends P s' n e' ≡ ends P s n e

abbrev pub SameAnswer : Room → Program → Type 0
SameAnswer room P =
    (m m' : Config) → Agree m m' → m'.callers ≡ m.callers → (k n : ℕ) →
    AnswersAlike P n (method_part room P k m).leaving (method_part room P k m').leaving

-- the run ends in the part
abbrev pub Halts : Leaving → Type 0
Halts (left e) = ⊥
Halts (halted s e) = Unit {0}

-- "This covers trial as well as run": of what they answer. R is the text's run with k allowed steps, and step i + 1 a `call` in it. If the run
-- ends before that call does, then from each state that agrees with the one after the `call` step it ends with the answer that trial gives
-- for the text, and run, if check accepts it: number, line, count of steps, values.
abbrev pub SameAnswered : Type 0
SameAnswered =
    (t : List ℕ) (items : List Item) → read_text t ≡ accepted items → (k : ℕ) (R : Run whole_heap (program items) k) (i : ℕ) →
    CallStep whole_heap (program items) R i → (m' : Config) → Agree (R.state (suc i)) m' → m'.callers ≡ (R.state (suc i)).callers →
    Halts (method_part whole_heap (program items) (k - suc i) (R.state (suc i))).leaving →
    (outcome_result (run whole_heap (program items) (k - suc i) (suc i) m') ≡ trial_text t k)
    × ((check_text t).0 ≡ 0 → outcome_result (run whole_heap (program items) (k - suc i) (suc i) m') ≡ run_text t k)

-- A FUNCTION OF WHAT IS HANDED OVER

-- two `call` steps of the method n, on y and z in the state m, on y' and z' in m': equal arguments, the same halves handed over, of fields
-- with one value in both; the machine is as full in both, by objects and by frames
pub record SameCall (P : Program) (n : ℕ) (m : Config) (y z : ℕ) (m' : Config) (y' z' : ℕ) : Type 0 where
  pub receiver : value_of m'.frame y' ≡ value_of m.frame y
  pub argument : value_of m'.frame z' ≡ value_of m.frame z
  pub handed : handed_over P m' y' n z' ≡ handed_over P m y n z
  pub values : (p : Location) → 1 ≤ halves (handed_over P m y n z) p → SameAt m.heap m'.heap p
  pub alike : classes_of m'.heap ≡ classes_of m.heap
  pub calls : depth m' ≡ depth m

-- a state that does a `call` next, and the state after it
pub record Calls (room : Room) (P : Program) (m a : Config) (y n z : ℕ) : Type 0 where
  pub x : ℕ
  pub is_call : statement_of P m.frame ≡ simple (call x y n z)
  pub is_done : step room P m ≡ on a

-- A method's behaviour is a function of its arguments and of what its `requires` hands over: of each text that the reader takes
abbrev pub FunctionOfHanded : Type 0
FunctionOfHanded =
    (t : List ℕ) (items : List Item) → read_text t ≡ accepted items → (room : Room) (n : ℕ) (m a : Config) (y z : ℕ) (m' a' : Config) (y' z' : ℕ) →
    Calls room (program items) m a y n z → Calls room (program items) m' a' y' n z' → SameCall (program items) n m y z m' y' z' → (k : ℕ) →
    SameSeen (program items) a a' (method_part room (program items) k a) (method_part room (program items) k a')

-- Two catalogues: main on any heap, of which its frame holds any part. If they differ elsewhere only, the run has one answer.
abbrev pub TwoCatalogues : Type 0
TwoCatalogues =
    (t : List ℕ) (items : List Item) → read_text t ≡ accepted items → (room : Room) (m m' : Config) → m.callers ≡ [] → Agree m m' → (k n : ℕ) →
    run room (program items) k n m' ≡ run room (program items) k n m

-- THE SOURCES' THEOREMS ON FRAMES

-- document 000, 8.2: what an expression or a formula says depends only on what is held
abbrev pub DependOnHeld : Type 0
DependOnHeld =
    (h h' : Heap) (F : Frame) → ((p : Location) → 1 ≤ halves F.held p → SameAt h h' p) →
    ((e : Expr ℕ) → value h' F e ≡ value h F e) × ((φ : Formula ℕ) → footprint h' F φ ≡ footprint h F φ)

-- document 001's self-framed formulas: one that reads only what it takes before (number 10 of requires and ensures) is decided by what it
-- takes. Whoever holds that much, over a heap with these values, takes the same.
abbrev pub DecidedByFootprint : Type 0
DecidedByFootprint =
    (h h' : Heap) (F : Frame) (H : List Location) (φ : Formula ℕ) (A : List Location) → T (framed [] φ) → footprint h F φ ≡ ok A →
    ((p : Location) → 1 ≤ halves A p → SameAt h h' p) → ((p : Location) → halves A p ≤ halves H p) → footprint h' (holding H F) φ ≡ ok A

-- so, of a text that number 10 lets pass, that the same halves are handed over follows from their being held, with one value in both
abbrev pub HandsTheSame : Type 0
HandsTheSame =
    (t : List ℕ) (items : List Item) → read_text t ≡ accepted items → check_framed items 0 ≡ accepted tt → (room : Room) (n : ℕ) (m a : Config)
    (y z : ℕ) → Calls room (program items) m a y n z → (m' : Config) (y' z' : ℕ) → value_of m'.frame y' ≡ value_of m.frame y →
    value_of m'.frame z' ≡ value_of m.frame z →
    ((p : Location) → 1 ≤ halves (handed_over (program items) m y n z) p → SameAt m.heap m'.heap p) →
    ((p : Location) → halves (handed_over (program items) m y n z) p ≤ halves m'.frame.held p) →
    handed_over (program items) m' y' n z' ≡ handed_over (program items) m y n z

-- document 000, 8.3, frames that are separate: what the caller keeps, G, is not handed over whole. Over G an expression and a formula say what
-- they said before the `call` step, in each state up to the call's end.
abbrev pub FrameSeparation : Type 0
FrameSeparation =
    (t : List ℕ) (items : List Item) → read_text t ≡ accepted items → (room : Room) (k : ℕ) (R : Run room (program items) k) (i : ℕ) →
    CallStep room (program items) R i → (j : ℕ) → During room (program items) R i j → (G : Frame) (Gs : List Frame) →
    (R.state (suc i)).callers ≡ G ∷ Gs →
    ((e : Expr ℕ) → value (R.state j).heap G e ≡ value (R.state i).heap G e)
    × ((φ : Formula ℕ) → footprint (R.state j).heap G φ ≡ footprint (R.state i).heap G φ)
