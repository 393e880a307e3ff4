-- Where the definition goes on, the full machine on the ghost does not stop.
use mathlib.Core.Path.{◌≡◌, refl, sym, ◌∙◌}
use Prim.Native.Nat.{ℕ}
use native.Mathlib.Omega.{arith}
use Rattle.rules.specs.Answers.{Stop, heap_full, frames_full, permission_missing, null_followed, formula_false, overflow}
use Rattle.rules.specs.Machine.{Config, Step, on, stop}
use Rattle.run_heap.specs.declared.Fault.{Fault}
use Rattle.run_heap.specs.Views.{stop_of}

-- each stop is one of the code's
pub fault-of : (s : Stop) → (f : Fault) × (s ≡ stop_of f)
unfolding stop_of
fault-of heap_full = (Fault.HeapFull, refl)
fault-of frames_full = (Fault.FramesFull, refl)
fault-of permission_missing = (Fault.Permission, refl)
fault-of null_followed = (Fault.Null, refl)
fault-of formula_false = (Fault.False, refl)
fault-of overflow = (Fault.Overflow, refl)

on-stop : {m : Config} {s : Stop} {B : Type 0} → ◌≡◌ {A = Step} (on m) (stop s) → B
on-stop e = absurd (let z : ◌≡◌ {A = ℕ} 0 1 = cc in omega arith)

pub not_stopped : {s : Step} {m : Config} {t : Stop} {B : Type 0} → s ≡ on m → s ≡ stop t → B
not_stopped e q = on-stop (sym e ∙ q)
