-- The second half of demand 3 of every run of a text, and that runs agree: the statements are those of specs/AnyRun.
use mathlib.Core.Path.{◌≡◌, sym, ap, ◌∙◌}
use Prim.Native.Nat.{zero, suc}
use native.Mathlib.Omega.{arith}
use Rattle.rules.specs.Reading.{program}
use Rattle.rules.specs.Machine.{Config, Step, on, step}
use Rattle.rules.specs.Calls.{whole_heap}
use Rattle.rules.proofs.Disjoint.{two-halves}
use Rattle.rules.proofs.Chains.{chains-end, chains-handed}
use Rattle.soundness.specs.AnyRun.{EveryRunKeeps, RunsAgree}
use Rattle.soundness.proofs.FrameKept.{frame-kept}

pub every-run-keeps : EveryRunKeeps
every-run-keeps t items e k R =
    record {
      kept = frame-kept whole_heap (program items) R;
      halves = two-halves whole_heap (program items) R;
      chains = chains-end whole_heap (program items) R;
      handed = chains-handed whole_heap (program items) R;
    }

on-inj : {m m' : Config} → ◌≡◌ {A = Step} (on m) (on m') → m ≡ m'
on-inj e = cc

pub runs-agree : RunsAgree
runs-agree room P k k' R R' zero l l' = R.first ∙ sym R'.first
runs-agree room P k k' R R' (suc i) l l' =
    let e = runs-agree room P k k' R R' i (omega arith) (omega arith) in
    on-inj (sym (R.next i (omega arith)) ∙ (ap (step room P) e ∙ R'.next i (omega arith)))
