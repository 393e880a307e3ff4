-- W10: on every text the lean machine answers what run answers.
use mathlib.Core.Path.{◌≡◌, refl, sym, ap}
use mathlib.Core.List.{List, [], ◌∷◌, map}
use Prim.Native.Nat.{ℕ, zero, suc}
use Rattle.rules.specs.Answers as Answers
use Rattle.rules.specs.Answers.{Verdict, accepted, refused, then}
use Rattle.rules.specs.Items.{Item}
use Rattle.rules.specs.Reading.{read_text, check_framed, program}
use Rattle.rules.specs.Rules.{check_program}
use Rattle.rules.specs.Syntax.{Program}
use Rattle.rules.specs.Machine as Machine
use Rattle.rules.specs.Machine.{Config, Frame, Room, Step, on, stop, done}
use Rattle.rules.specs.Lean as Lean
use Rattle.rules.specs.Calls.{check_items, checked_items, whole_heap, outcome_result, run_items, lean_items, run_text_in, run_text, lean_text}
use Rattle.rules.specs.Demand.{LeanIsRun}
use Rattle.rules.proofs.Tries.{then-accepted, accepted-inj}
use Rattle.soundness.specs.Endings.{EndsUnstuck}
use Rattle.soundness.specs.WellFormed.{WellFormed}
use Rattle.soundness.proofs.NeverStuck.{accepted-ends-unstuck}
use Rattle.soundness.proofs.ReadFormed.{read-formed}
use Rattle.soundness.proofs.LeanFollows.{bare, lean, Follows, step_follows}

-- main's values
main-bare : (F : Frame) (Cs : List Frame) → (Lean.main_frame (bare F) (map bare Cs)).values ≡ (Machine.main_frame F Cs).values
unfolding Lean.main_frame Machine.main_frame bare
main-bare F [] = refl
main-bare F (C ∷ Cs) = main-bare C Cs

ends-lean :
    (P : Program) (e : Lean.Ending) (d : Answers.Ending) (n : ℕ) (m : Config) → Lean.ending_of e ≡ d →
    Lean.outcome_of (Lean.ends P e n (lean m)) ≡ Machine.ends P d n m
unfolding Lean.outcome_of Lean.ends Machine.ends lean bare
ends-lean P e d n m q = rw (sym q, main-bare m.frame m.callers) refl

module _ (room : Room) (P : Program) where
  -- a run that does not stop with 24, 25 or 26, of a program that is accepted or not
  run-lean :
      (k n : ℕ) (m : Config) → EndsUnstuck (Machine.run room P k n m).ending →
      Lean.outcome_of (Lean.run room P k n (lean m)) ≡ Machine.run room P k n m
  unfolding Machine.run Machine.go_on Machine.ends Lean.run Lean.go_on Lean.ending_of
  run-lean zero n m u = ends-lean P Lean.Ending.steps_taken _ n m refl
  run-lean (suc k) n m u =
      go (Machine.step room P m) (Lean.step room P (lean m)) (step_follows room P m) u (λ m'. run-lean k (suc n) m')
    where
      go :
          (s : Step) (l : Lean.Step) → Follows s l →
          EndsUnstuck (Machine.go_on P s n m (λ m'. Machine.run room P k (suc n) m')).ending →
          ((m' : Config) → EndsUnstuck (Machine.run room P k (suc n) m').ending →
          Lean.outcome_of (Lean.run room P k (suc n) (lean m')) ≡ Machine.run room P k (suc n) m') →
          Lean.outcome_of (Lean.go_on P l n (lean m) (λ m'. Lean.run room P k (suc n) m'))
          ≡ Machine.go_on P s n m (λ m'. Machine.run room P k (suc n) m')
      go (on m') l f u ih = rw f (ih m' u)
      go (stop s) l f u ih =
          let (r, e, q) = f u in rw e (ends-lean P (Lean.Ending.stopped r) _ n m (ap Answers.Ending.stopped q))
      go done l f u ih = rw f (ends-lean P Lean.Ending.finished _ (suc n) m refl)

  program-lean :
      (k : ℕ) → EndsUnstuck (Machine.run_program room P k).ending →
      Lean.outcome_of (Lean.run_program room P k) ≡ Machine.run_program room P k
  unfolding Machine.run_program Machine.start Lean.run_program Lean.start lean bare
  program-lean k u = run-lean k 0 (Machine.start P) u

-- every accepted program
pub accepted-lean :
    (P : Program) → WellFormed P → check_program P ≡ accepted tt → (room : Room) (k : ℕ) →
    Lean.outcome_of (Lean.run_program room P k) ≡ Machine.run_program room P k
accepted-lean P W e room k = program-lean room P k (accepted-ends-unstuck P W e room k)

-- TEXTS

-- items that are read and checked: their program is well formed and accepted
pub checked-accepted :
    (t : List ℕ) (items : List Item) → then (read_text t) checked_items ≡ accepted items →
    WellFormed (program items) × (check_program (program items) ≡ accepted tt)
unfolding checked_items check_items
checked-accepted t items e =
    let (read, r, c) = then-accepted (read_text t) _ items e in
    let (_, d, q) = then-accepted (check_items read) _ items c in
    let (_, _, p) = then-accepted (check_framed read 0) (λ u. check_program (program read)) tt d in
    rw (sym (accepted-inj q)) (read-formed t read r, p)

pub lean-is-run : LeanIsRun
unfolding lean_text lean_items run_text run_text_in run_items
lean-is-run t k = go (then (read_text t) checked_items) refl
  where
    go : (v : Verdict (List Item)) → then (read_text t) checked_items ≡ v → lean_items v k ≡ run_items whole_heap v k
    go (accepted items) e = let (W, p) = checked-accepted t items e in ap outcome_result (accepted-lean (program items) W p whole_heap k)
    go (refused r l) e = refl
