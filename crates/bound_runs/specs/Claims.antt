-- What W6 promises of a bound, over texts. proofs/Promises proves it.
use Rattle.std.specs.Prelude.{◌≡◌, List, ℕ, suc, ◌≤◌}
use Rattle.rules.specs.Limits.{most_frames}
use Rattle.rules.specs.Answers.{accepted}
use Rattle.rules.specs.Items.{Item}
use Rattle.rules.specs.Reading.{read_text, program}
use Rattle.rules.specs.Calls.{run_text, bound_text, whole_heap}
use Rattle.rules.specs.Runs.{Run, depth}

-- "Where it gives a bound, .. no run's count passes it."
abbrev pub NeverPassed : Type 0
NeverPassed = (t : List ℕ) → (bound_text t).number ≡ 0 → (k : ℕ) → (run_text t k).steps ≤ (bound_text t).bound

-- "Where it gives a bound, a run allowed that many steps never answers 21": nor one that is allowed more
abbrev pub EnoughSteps : Type 0
EnoughSteps = (t : List ℕ) → (bound_text t).number ≡ 0 → (k : ℕ) → (bound_text t).bound ≤ k → (run_text t k).number ≡ 21 → ⊥

-- "the most frames on a route of calls, main's counted": after no step of a run are more frames open
abbrev pub FramesEnough : Type 0
FramesEnough =
    (t : List ℕ) → (bound_text t).number ≡ 0 → (items : List Item) → read_text t ≡ accepted items → (k : ℕ)
    (R : Run whole_heap (program items) k) (i : ℕ) → i ≤ R.steps → suc (depth (R.state i)) ≤ (bound_text t).frames

-- so where they are at most 64, which document 01 allows, no run stops with 23, "frames full"
abbrev pub NeverFull : Type 0
NeverFull = (t : List ℕ) → (bound_text t).number ≡ 0 → (bound_text t).frames ≤ most_frames → (k : ℕ) → (run_text t k).number ≡ 23 → ⊥
