use Prim.Native.Nat.{ℕ}
use mathlib.Core.Path.{subst}
use Rattle.check_labels.specs.Labels.{Named}
use native.Mathlib.Omega.{arith}
use Rattle.check_labels.proofs.Relabelling.{naming-first, naming-more}
use Rattle.check_labels.proofs.relabel.Goals as goal

pub loop-i-init : goal.loop-i-init
loop-i-init c = naming-first _ _

pub loop-i-preserved : goal.loop-i-preserved
loop-i-preserved c = naming-more c.args.b.now _ c.loop-i.i _ _ c.loop-i.invariant (omega (arith, c.requires.1)) c.requires.2.size (λ j h. c.requires.2.low j (omega arith)) _ _
    (subst (λ (a : ℕ). Named c.loop-i.i a c.args.x c.loop-i.name c.new_label.new.name c.new_label.result) (c.loop-i.invariant.rest c.loop-i.i (omega arith)) c.new_label.ensures)
