use Prim.Native.Nat.{ℕ}
use native.Mathlib.Omega.{arith}
use mathlib.Core.List.{List}
use mathlib.Core.Path.{sym, ap, ◌∙◌, subst}
use Rattle.check_labels.specs.Labels.{LabelsBelow, Relabelled, LabelsFit, with_label}
use Rattle.check_labels.proofs.Relabelling.{label-size, relabelled-first, labels-first, fits_kept}
use Rattle.check_labels.proofs.keep_labels.Goals as goal

pub returns-then-fits : goal.returns-then-fits
returns-then-fits c =
    let b : List ℕ = c.args.b.now in
    let x : ℕ = c.args.x in
    subst (λ (l : List ℕ). Relabelled b c.args.m x l) (sym (c.set_label-then-fits.ensures ∙ ap (with_label x x) c.set_label.ensures))
    (relabelled-first b x c.requires.0 c.requires.3.size c.args.m 0 _ c.requires.1
    (fits_kept (with_label x 0 b) x c.requires.0 (label-size b x c.requires.0 c.requires.3.size 0) c.args.m c.requires.1 c.requires.2
    (subst (λ (l : List ℕ). LabelsFit l c.args.m c.args.m x) c.set_label.ensures (c.fits.ensures c.if-fits.true))))

pub relabel-requires : goal.relabel-requires
relabel-requires c =
    (c.requires.0, c.requires.2, subst (λ (l : List ℕ). LabelsBelow l c.args.m) (sym c.set_label.ensures) (labels-first c.args.b.now c.args.x c.requires.0 c.requires.3.size c.args.m 0 (omega arith) c.requires.3))

pub returns : goal.returns
returns c =
    relabelled-first c.args.b.now c.args.x c.requires.0 c.requires.3.size c.args.m 0 _ c.requires.1 (subst (λ (l : List ℕ). Relabelled l c.args.m c.args.x c.relabel.new.b) c.set_label.ensures c.relabel.ensures)
