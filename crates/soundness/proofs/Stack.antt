-- The invariant of a run of an accepted program: what holds of the frame that runs and of each caller.
use mathlib.Core.Path.{◌≡◌, sym, subst}
use mathlib.Core.List.{List, [], ◌∷◌, map}
use mathlib.Core.Option.{some}
use Prim.Native.Nat.{ℕ, suc, ◌≤◌}
use native.Mathlib.Omega.{arith}
use Rattle.rules.specs.Base.{Try, ok, no}
use Rattle.rules.specs.Answers.{Stop}
use Rattle.rules.specs.Syntax.{Formula, Program, row_numbered, this_variable, parameter, call, simple, join, end}
use Rattle.rules.specs.State.{Permission, State, empty, show, add, remove}
use Rattle.rules.specs.Rules.{Open, actual, subst_atom}
use Rattle.rules.specs.Machine.{Config, Frame, Heap, Location, Room, Step, on, stop, done, step, took, value_of, open_at}
use Rattle.rules.proofs.Changes.{holds, Within, change-within, step-changes}
use Rattle.rules.specs.Runs.{shares, TwoHalves}
use Rattle.rules.proofs.Disjoint.{HeldExists, shares-cons, change-keeps}
use Rattle.soundness.specs.WellFormed.{SimpleFormed, AtEnd, Over}
use Rattle.soundness.specs.Endings.{MayStop}
use Rattle.soundness.proofs.Satisfied.{Satisfied, AgreeAt, satisfied-heap}
use Rattle.soundness.proofs.Branches.{LoopAt, Opened, Accepts}

-- THE FRAME THAT RUNS
-- from its next row on it is accepted in a state that it satisfies; or that row is the `join` to which its first branch goes on, or
-- the `loop` to which `again` goes back; or it is the frame of a method that is not there
pub data Ready (P : Program) (h : Heap) (F : Frame) : Type 0 where
  at-row : (s : State) (os : List Open) → Satisfied h F s → Accepts P F.ensures F.row (some s) os → Ready P h F
  at_join :
      (φ : Formula ℕ) (s s' : State) (u : List Permission) (os : List Open) →
      (row_numbered P F.row).stmt ≡ join φ → Satisfied h F s → show s φ ≡ ok u → add φ empty ≡ ok s' →
      Accepts P F.ensures (suc F.row) (some s') os → Ready P h F
  at-loop :
      (φ : Formula ℕ) (s : State) (u : List Permission) (os : List Open) → Satisfied h F s → show s φ ≡ ok u →
      LoopAt P F.ensures F.row φ os → Opened P F.ensures os (open_at P.rows F.row) → Ready P h F
  at-nothing : (row_numbered P F.row).stmt ≡ end → F.ensures ≡ [] → Ready P h F

-- A CALLER
-- at its `call` line, below a frame with the values `this` and w and the ensures φ: it satisfies what the call left it, and goes
-- on from there with x removed and ensures added
pub record Suspended (P : Program) (h : Heap) (this w : ℕ) (φ : Formula ℕ) (C : Frame) : Type 0 where
  pub x : ℕ
  pub y : ℕ
  pub method : ℕ
  pub z : ℕ
  pub is_call : (row_numbered P C.row).stmt ≡ simple (call x y method z)
  pub call-formed : SimpleFormed (call x y method z)
  pub is-this : this ≡ value_of C y
  pub is-w : w ≡ value_of C z
  pub over : Over AtEnd φ
  pub left : State
  pub satisfied : Satisfied h C left
  pub after : State
  pub opens : List Open
  pub adds : add (map (subst_atom (actual y z x)) φ) (remove x left) ≡ ok after
  pub goes_on : Accepts P C.ensures (suc C.row) (some after) opens

-- all callers, the nearest first
abbrev pub Below : Program → Heap → ℕ → ℕ → Formula ℕ → List Frame → Type 0
Below P h this w φ [] = Unit {0}
Below P h this w φ (C ∷ Cs) =
    Suspended P h this w φ C × Below P h (value_of C this_variable) (value_of C parameter) C.ensures Cs

abbrev pub BelowFrame : Program → Heap → Frame → List Frame → Type 0
BelowFrame P h F Cs = Below P h (value_of F this_variable) (value_of F parameter) F.ensures Cs

-- THE INVARIANT
pub record Invariant (P : Program) (m : Config) : Type 0 where
  pub two : TwoHalves m
  pub exist : HeldExists m
  pub ready : Ready P m.heap m.frame
  pub below : BelowFrame P m.heap m.frame m.callers

-- ONE STEP
-- the frame goes on in its call
pub record SameCall (F G : Frame) : Type 0 where
  pub ensures : G.ensures ≡ F.ensures
  pub this : value_of G this_variable ≡ value_of F this_variable
  pub w : value_of G parameter ≡ value_of F parameter

-- what each statement shows of its step: the frame goes on in its call, or another runs
pub data Moved (P : Program) (m m' : Config) : Type 0 where
  same-frame : Ready P m'.heap m'.frame → SameCall m.frame m'.frame → m'.callers ≡ m.callers → Moved P m m'
  other-frame : Ready P m'.heap m'.frame → BelowFrame P m'.heap m'.frame m'.callers → Moved P m m'

abbrev pub Kept : Program → Config → Step → Type 0
Kept P m (on m') = Moved P m m'
Kept P m (stop r) = MayStop r
Kept P m done = Unit {0}

-- a statement that goes on to the next line, from a state to s'
pub record Onward (m : Config) (s' : State) (m' : Config) : Type 0 where
  pub satisfied : Satisfied m'.heap m'.frame s'
  pub row : m'.frame.row ≡ suc m.frame.row
  pub same-call : SameCall m.frame m'.frame
  pub callers : m'.callers ≡ m.callers

abbrev pub Goes : Config → State → Try Stop Config → Type 0
Goes m s' (ok m') = Onward m s' m'
Goes m s' (no r) = MayStop r

-- such a statement, where the rows after it are accepted from s'
pub goes_kept :
    (P : Program) (m : Config) (s' : State) (os : List Open) (t : Try Stop Config) →
    Accepts P m.frame.ensures (suc m.frame.row) (some s') os → Goes m s' t → Kept P m (took t)
unfolding took
goes_kept P m s' os (no c) k g = g
goes_kept P m s' os (ok m') k g =
    same-frame
    (at-row s' os g.satisfied
    (subst (λ φ. Accepts P φ m'.frame.row (some s') os) (sym g.same-call.ensures)
    (subst (λ i. Accepts P m.frame.ensures i (some s') os) (sym g.row) k)))
    g.same-call g.callers

-- A HEAP THAT CHANGES
suspended-heap :
    (P : Program) (h h' : Heap) (t w : ℕ) (φ : Formula ℕ) (C : Frame) → ((p : Location) → 1 ≤ holds C p → AgreeAt h h' p) →
    Suspended P h t w φ C → Suspended P h' t w φ C
suspended-heap P h h' t w φ C A S =
    record {
      x = S.x;
      y = S.y;
      method = S.method;
      z = S.z;
      is_call = S.is_call;
      call-formed = S.call-formed;
      is-this = S.is-this;
      is-w = S.is-w;
      over = S.over;
      left = S.left;
      satisfied = satisfied-heap h h' C S.left A S.satisfied;
      after = S.after;
      opens = S.opens;
      adds = S.adds;
      goes_on = S.goes_on;
    }

below-heap :
    (P : Program) (h h' : Heap) (t w : ℕ) (φ : Formula ℕ) (Cs : List Frame) →
    ((p : Location) → 1 ≤ shares Cs p → AgreeAt h h' p) → Below P h t w φ Cs → Below P h' t w φ Cs
below-heap P h h' t w φ [] A B = tt
below-heap P h h' t w φ (C ∷ Cs) A B = (
  suspended-heap P h h' t w φ C (λ p i. A p (omega (arith, i, shares-cons C Cs p))) B.0,
  below-heap P h h' (value_of C this_variable) (value_of C parameter) C.ensures Cs (λ p l. A p (omega (arith, l, shares-cons C Cs p))) B.1,
)

-- what the callers hold the frame does not hold whole, and no step of its own changes it
callers-agree :
    (m m' : Config) → TwoHalves m → HeldExists m → Within m m' → (p : Location) → 1 ≤ shares m.callers p →
    AgreeAt m.heap m'.heap p
callers-agree m m' H E W p l = W.outside p (omega (arith, H p, l)) (E p (omega (arith, l)))

pub below-same :
    (P : Program) (h : Heap) (F G : Frame) (Cs : List Frame) → SameCall F G → BelowFrame P h F Cs → BelowFrame P h G Cs
below-same P h F G Cs S B =
    subst (λ φ. Below P h (value_of G this_variable) (value_of G parameter) φ Cs) (sym S.ensures)
    (subst (λ w. Below P h (value_of G this_variable) w F.ensures Cs) (sym S.w)
    (subst (λ t. Below P h t (value_of F parameter) F.ensures Cs) (sym S.this) B))

-- the invariant after a step, from what its statement shows
pub moved-invariant :
    (room : Room) (P : Program) (m m' : Config) → Invariant P m → step room P m ≡ on m' → Moved P m m' →
    Invariant P m'
moved-invariant room P m m' I e M =
    let (H, E) = change-keeps m m' (step-changes room P m m' e) I.two I.exist in go H E M
  where
    go : TwoHalves m' → HeldExists m' → Moved P m m' → Invariant P m'
    go H E (same-frame R S c) =
        let W : Within m m' = change-within m m' (step-changes room P m m' e) c in
        record {
          two = H;
          exist = E;
          ready = R;
          below =
              subst (BelowFrame P m'.heap m'.frame) (sym c)
              (below-same P m'.heap m.frame m'.frame m.callers S
              (below-heap P m.heap m'.heap _ _ _ m.callers (callers-agree m m' I.two I.exist W) I.below));
        }
    go H E (other-frame R B) = record { two = H; exist = E; ready = R; below = B }
