-- Demand 3 beyond the one run that a call answers with: of every run of a text, and from any heap of which main's frame holds a part.
use Rattle.std.specs.Prelude.{◌≡◌, List, [], ℕ, suc, ◌≤◌, ◌<◌, length}
use Rattle.rules.specs.Answers.{accepted}
use Rattle.rules.specs.Items.{Item}
use Rattle.rules.specs.Reading.{read_text, program}
use Rattle.rules.specs.Rules.{check_program}
use Rattle.rules.specs.Syntax.{Program, simple, call}
use Rattle.rules.specs.Machine.{Config, Location, Room, on, step, statement_of, halves, value_at, run, start}
use Rattle.rules.specs.Calls.{whole_heap}
use Rattle.rules.specs.Runs.{depth, handed_over, TwoHalves, Run, FrameKept, HalvesKept, ChainsEnd, ChainsHanded}
use Rattle.soundness.specs.WellFormed.{WellFormed}
use Rattle.soundness.specs.Endings.{EndsUnstuck}

-- EVERY RUN

-- what a run keeps, as `KeepsFrame` has it
pub record Keeps (P : Program) {k : ℕ} (R : Run whole_heap P k) : Type 0 where
  pub kept : FrameKept whole_heap P R
  pub halves : HalvesKept whole_heap P R
  pub chains : ChainsEnd whole_heap P R
  pub handed : ChainsHanded whole_heap P R

-- each list of steps that is a run of a text that the reader takes, with any number of allowed steps
abbrev pub EveryRunKeeps : Type 0
EveryRunKeeps =
    (t : List ℕ) (items : List Item) → read_text t ≡ accepted items → (k : ℕ) (R : Run whole_heap (program items) k) → Keeps (program items) R

-- two runs of a program, allowed as many steps or not, agree up to the end of the shorter
abbrev pub RunsAgree : Type 0
RunsAgree =
    (room : Room) (P : Program) (k k' : ℕ) (R : Run room P k) (R' : Run room P k') (i : ℕ) → i ≤ R.steps → i ≤ R'.steps →
    R.state i ≡ R'.state i

-- ANY HEAP

-- a start as main's, on any heap: main's frame holds at most two halves of a location, and only of fields that are there
pub record StartsMain (P : Program) (m : Config) : Type 0 where
  pub row : m.frame.row ≡ P.main
  pub ensures : m.frame.ensures ≡ []
  pub alone : m.callers ≡ []
  pub two : (p : Location) → halves m.frame.held p ≤ 2
  pub exist : (p : Location) → 1 ≤ halves m.frame.held p → p.object ≤ length m.heap

-- the first half of demand 3: an accepted program is never stuck, whatever heap it starts on, whatever its variables hold, and whatever part
-- of the heap is main's. The exported calls start on the empty heap (`start`).
abbrev pub NeverStuckFrom : Type 0
NeverStuckFrom =
    (P : Program) → WellFormed P → check_program P ≡ accepted tt → (room : Room) (m : Config) → StartsMain P m → (k : ℕ) →
    EndsUnstuck (run room P k 0 m).ending

abbrev pub StartStarts : Type 0
StartStarts = (P : Program) → StartsMain P (start P)

-- n steps from the state m on: the state after each
pub record StepsFrom (room : Room) (P : Program) (m : Config) (n : ℕ) : Type 0 where
  pub state : ℕ → Config
  pub first : state 0 ≡ m
  pub next : (i : ℕ) → i < n → step room P (state i) ≡ on (state (suc i))

-- the second half, from any state whatever: step i + 1 is a `call`, and the states after it have it open up to the j-th. Then each field of
-- a card that is in the heap at the `call` step, whether a step made the card or it was there at the start, has its value from before that
-- step, unless it was handed over whole. `FrameKept` is this of the runs from `start`.
abbrev pub CallsKeepFrom : Type 0
CallsKeepFrom =
    (room : Room) (P : Program) (m : Config) (n : ℕ) (S : StepsFrom room P m n) (i x y q z : ℕ) → i < n →
    statement_of P (S.state i).frame ≡ simple (call x y q z) → (j : ℕ) → i < j → j ≤ n →
    ((l : ℕ) → i < l → l < j → depth (S.state i) < depth (S.state l)) → (o f : ℕ) → o ≤ length (S.state i).heap →
    halves (handed_over P (S.state i) y q z) (record { object = o; field = f }) < 2 →
    value_at (S.state j).heap o f ≡ value_at (S.state i).heap o f

-- and from a start as main's all frames together hold at most two halves of a location, after each step
abbrev pub HalvesFrom : Type 0
HalvesFrom =
    (room : Room) (P : Program) (m : Config) → StartsMain P m → (n : ℕ) (S : StepsFrom room P m n) (i : ℕ) → i ≤ n → TwoHalves (S.state i)
