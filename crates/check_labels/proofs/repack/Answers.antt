use Prim.Native.Nat.{ℕ, ◌+◌, ◌*◌}
use native.Mathlib.Omega.{arith}
use lib.ListN.{set}
use mathlib.Core.Path.{refl, sym, subst}
use Rattle.check_equality.specs.Layout.{left_sides, fact_count}
use Rattle.check_labels.specs.Labels.{Lone, Relabelled}
use Rattle.check_labels.proofs.Relabelling.{is-lone}
use Rattle.check_labels.proofs.Repacking.{packing-first, packing-more, labels-below, repacked}
use Rattle.check_labels.proofs.repack.Goals as goal

pub loop-i-init : goal.loop-i-init
loop-i-init c = packing-first _ _ _ _ _ c.requires.0 c.requires.1

pub loop-i-preserved : goal.loop-i-preserved
loop-i-preserved c =
    packing-more c.args.key.now c.args.b.now c.args.gone.now c.loop-i.i c.loop-i.n c.loop-i.key c.loop-i.b c.loop-i.invariant (omega arith) c.requires.0.wf.linked.fit _ _ _ _ refl refl refl refl _ _ _ (rw c.is_out-out.ensures at c.move_fact-n.ensures)

pub keep_labels-requires : goal.keep_labels-requires
keep_labels-requires c = (
  subst Lone (sym c.lone.ensures) (is-lone c.args.x),
  omega arith,
  omega (arith, c.loop-i.invariant.few, c.requires.0.wf.linked.fit),
  labels-below c.args.key.now c.args.b.now c.args.gone.now c.args.x c.loop-i.i c.loop-i.n c.loop-i.key c.loop-i.b c.requires.0 (omega arith) c.loop-i.invariant,
)

pub returns : goal.returns
returns c =
    repacked c.args.key.now c.args.b.now c.args.gone.now c.args.x c.loop-i.i c.loop-i.n c.loop-i.key c.loop-i.b c.requires.0 (omega arith) c.loop-i.invariant _
    (subst (λ (y : ℕ). Relabelled (set c.loop-i.b fact_count c.loop-i.n) (left_sides + 2 * c.loop-i.n) y c.keep_labels.new.b) c.lone.ensures c.keep_labels.ensures)
